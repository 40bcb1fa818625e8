use Rattle.std.proofs.Common.{rules, [], ◌∷◌, arith, refl, ap, subst, ◌∙◌, ◌≡◌, ◌≤◌, ◌-◌, ◌^◌, ◌++◌, append_assoc}
use Rattle.shogi_core.specs.Codes.{code_of}
use Rattle.shogi_moves.specs.After.{after_code}
use Rattle.shogi_moves.specs.LegalMoves.{legal_codes, perft}
use Rattle.shogi_moves.proofs.PerftLaws.{perft_first, perft_last, perft_by-left, fewer_left}
use Rattle.usi_moves.specs.Listings.{count_text, share_text, shares_text}
use Rattle.usi_moves.proofs.Left.{left, none_left}
use Rattle.usi_moves.proofs.Telling.{no_more, one_more, told_first, told_none, told_then}
use Rattle.usi_moves.specs.Told.{IsTold}
use Rattle.usi_moves.proofs.texts.write_perft.Goals as goal

pub moves-init : goal.moves-init
moves-init g c = record {
  whole = perft_first c.args.p.now c.args.depth c.new-walk.result.codes (omega arith) c.new-walk.ensures.codes;
  same = c.new-walk.ensures.position;
  fits = omega arith;
  text = search rules;
  told = ([], (search rules, told_none (g.P.Progress.told c.args.progress.now)));
}

pub advance-requires : goal.advance-requires
advance-requires g c = search rules

-- if the count of one first move is 2^64 or more, the whole count is
pub returns-in_default-perft-clause-too_many : goal.returns-in_default-perft-clause-too_many
returns-in_default-perft-clause-too_many g c =
    let step = perft_by-left c.args.p.now (c.args.depth - 1) (code_of c.in-Some.m) c.moves.walk.codes c.next.new.self.codes c.advance.new.p c.in-Some.ensures.next c.advance.ensures.by_code in
    let share : 2 ^ 64 ≤ perft c.advance.new.p (c.args.depth - 1) = c.in_default-perft.ensures.if_none.0 refl in
    omega arith

pub returns-in_default-checked_add-clause-too_many : goal.returns-in_default-checked_add-clause-too_many
returns-in_default-checked_add-clause-too_many g c =
    let step = perft_by-left c.args.p.now (c.args.depth - 1) (code_of c.in-Some.m) c.moves.walk.codes c.next.new.self.codes c.advance.new.p c.in-Some.ensures.next c.advance.ensures.by_code in
    omega (arith, c.in-Some-perft.ensures.count, c.in_default-checked_add.ensures)

pub moves-smaller : goal.moves-smaller
moves-smaller g c = fewer_left c.moves.walk.codes c.next.new.self.codes _ c.in-Some.ensures.next

-- the first move's count is added, and its line appended
pub moves-preserved : goal.moves-preserved
moves-preserved g c =
    let step = perft_by-left c.args.p.now (c.args.depth - 1) (code_of c.in-Some.m) c.moves.walk.codes c.next.new.self.codes c.advance.new.p c.in-Some.ensures.next c.advance.ensures.by_code in
    let share : c.in-Some-perft.count ≡ perft (after_code c.args.p.now (code_of c.in-Some.m)) (c.args.depth - 1) =
    c.in-Some-perft.ensures.count ∙ ap (λ q. perft q (c.args.depth - 1)) c.advance.ensures.by_code in
    record {
      whole = omega (arith, c.in-Some-checked_add.ensures, c.in-Some-perft.ensures.count);
      same = search rules;
      fits = omega (arith, c.in-Some-checked_add.ensures);
      text = left (λ code. share_text c.args.divide code (perft (after_code c.args.p.now code) (c.args.depth - 1)))
          c.moves.out.items c.write_share.new.out.items (c.args.out.now.items ++ shares_text c.args.p.now (c.args.depth - 1) c.args.divide (legal_codes c.args.p.now)) c.moves.walk.codes c.next.new.self.codes (code_of c.in-Some.m)
          c.in-Some.ensures.next
          (c.in_ok-write_share.ensures ∙ ap (λ n. c.moves.out.items ++ share_text c.args.divide (code_of c.in-Some.m) n) share)
          c.moves.invariant.text;
      told = (
        c.moves.invariant.told.0 ++ (code_of c.in-Some.m ∷ []),
        (
          one_more c.moves.invariant.told.0 c.moves.walk.codes c.next.new.self.codes (legal_codes c.args.p.now) (code_of c.in-Some.m) c.in-Some.ensures.next c.moves.invariant.told.1.0,
          told_then (g.P.Progress.told c.args.progress.now) (g.P.Progress.told c.moves.progress) (g.P.Progress.told c.counted.new.self) c.moves.invariant.told.0 (code_of c.in-Some.m ∷ []) c.moves.invariant.told.1.1 c.counted.ensures.told,
        ),
      );
    }

-- after an error the moves before this one were told
pub returns-in_default-perft-clause-told : goal.returns-in_default-perft-clause-told
returns-in_default-perft-clause-told g c = (c.moves.invariant.told.0, (c.moves.walk.codes, c.moves.invariant.told.1))

pub returns-in_default-checked_add-clause-told : goal.returns-in_default-checked_add-clause-told
returns-in_default-checked_add-clause-told g c = (c.moves.invariant.told.0, (c.moves.walk.codes, c.moves.invariant.told.1))

pub returns-in_err-write_share-clause-told : goal.returns-in_err-write_share-clause-told
returns-in_err-write_share-clause-told g c = told_first _ _ _ c.from_residual.result c.from_residual.ensures.0 (c.moves.invariant.told.0, (c.moves.walk.codes, c.moves.invariant.told.1))

pub returns-in_err-write_count-clause-told : goal.returns-in_err-write_count-clause-told
returns-in_err-write_count-clause-told g c = told_first _ _ _ c.from_residual-in_err-write_count.result c.from_residual-in_err-write_count.ensures.0 (c.moves.invariant.told.0, (c.moves.walk.codes, c.moves.invariant.told.1))

pub returns-clause-told : goal.returns-clause-told
returns-clause-told g c =
    subst (λ codes. IsTold (g.P.Progress.told c.args.progress.now) (g.P.Progress.told c.moves.progress) codes)
    (no_more c.moves.invariant.told.0 c.moves.walk.codes (legal_codes c.args.p.now) c.in_default.ensures.next.0 c.moves.invariant.told.1.0) c.moves.invariant.told.1.1

pub returns-clause-ok : goal.returns-clause-ok
returns-clause-ok g c =
    let all = perft_last c.args.p.now c.args.depth c.moves.total c.moves.walk.codes c.moves.invariant.whole c.in_default.ensures.next.0 in
    let written = none_left (λ code. share_text c.args.divide code (perft (after_code c.args.p.now code) (c.args.depth - 1)))
    c.moves.out.items (c.args.out.now.items ++ shares_text c.args.p.now (c.args.depth - 1) c.args.divide (legal_codes c.args.p.now)) c.moves.walk.codes c.in_default.ensures.next.0 c.moves.invariant.text in
    c.in_ok-write_count.ensures ∙ (ap (λ n. c.moves.out.items ++ count_text n) all ∙ (ap (λ xs. xs ++ count_text (perft c.args.p.now c.args.depth)) written ∙ simp append_assoc))

pub returns-clause-fits : goal.returns-clause-fits
returns-clause-fits g c =
    omega (arith, perft_last c.args.p.now c.args.depth c.moves.total c.moves.walk.codes c.moves.invariant.whole c.in_default.ensures.next.0, c.moves.invariant.fits)
