-- The info lines of a position, depth by depth.
use Rattle.std.proofs.Common.{◌≡◌, ◌≢◌, ℕ, ◌+◌, ◌<◌, List, [], ◌∷◌, ◌++◌, Option, Some, None, refl, ap, add-one, inr}
use Rattle.std.specs.Prelude.{is_some, false}
use Rattle.shogi_core.specs.declared.moves.Move.{Move}
use Rattle.shogi_core.specs.Position.{Shogi}
use Rattle.shogi_eval.specs.declared.eval.Eval.{Eval}
use Rattle.shogi_moves.specs.LegalMoves.{legal_codes}
use Rattle.minimax.specs.Minimax.{best, pv}
use Rattle.minimax.proofs.Lines.{pv-none}
use Rattle.minimax.proofs.Best.{none_iff}
use Rattle.usi_session.specs.GoInfos.{info_lines, depth_lines, go_infos, go_infos_where}

pub info_lines-start : (p : Shogi) (eval : Eval) (multi_pv : ℕ) → info_lines p eval multi_pv 0 ≡ []
unfolding info_lines
info_lines-start p eval multi_pv = refl

-- the info lines of one more depth
pub info_lines-more : (p : Shogi) (eval : Eval) (multi_pv done : ℕ) → info_lines p eval multi_pv (done + 1) ≡ info_lines p eval multi_pv done ++ depth_lines p eval multi_pv (done + 1)
unfolding info_lines
info_lines-more p eval multi_pv done = rw add-one refl

-- a list with a first element is not empty
pub not_empty : (xs rest : List ℕ) (x : ℕ) → xs ≡ x ∷ rest → xs ≢ []
not_empty xs rest x e = λ h. cc

-- if no move is legal, nothing is said
pub go_infos-none : (p : Shogi) (eval : Eval) (multi_pv depth : ℕ) → legal_codes p ≡ [] → go_infos p eval multi_pv depth ≡ []
go_infos-none p eval multi_pv depth e = ap (go_infos_where p eval multi_pv depth) e

go_infos_where-some : (p : Shogi) (eval : Eval) (multi_pv depth : ℕ) (codes : List ℕ) → codes ≢ [] → go_infos_where p eval multi_pv depth codes ≡ info_lines p eval multi_pv depth
go_infos_where-some p eval multi_pv depth [] h = absurd (h refl)
go_infos_where-some p eval multi_pv depth (code ∷ codes) h = refl

-- if a move is legal, each depth is said
pub go_infos-some : (p : Shogi) (eval : Eval) (multi_pv depth : ℕ) → legal_codes p ≢ [] → go_infos p eval multi_pv depth ≡ info_lines p eval multi_pv depth
go_infos-some p eval multi_pv depth h = go_infos_where-some p eval multi_pv depth (legal_codes p) h

none_is : (o : Option Move) → is_some o ≡ false → o ≡ None
none_is None e = refl
none_is (Some m) e = absurd (cc)

-- if no move is legal, the pv is empty
pub pv-empty : (p : Shogi) (eval : Eval) (depth : ℕ) → 0 < depth → legal_codes p ≡ [] → pv p eval depth ≡ []
pv-empty p eval depth h e = pv-none p eval depth h (none_is (best p eval depth) ((none_iff p eval depth (best p eval depth) refl).1 (inr e)))
