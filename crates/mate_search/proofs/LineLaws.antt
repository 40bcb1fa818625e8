-- The main line, move by move.
use Rattle.std.proofs.Common.{◌≡◌, ℕ, ◌-◌, ◌<◌, List, [], ◌∷◌, ◌++◌, Some, None, refl, sym, ap, ◌∙◌, arith, map, append_assoc, append-nil}
use Rattle.std.proofs.lemmas.List.{map-append}
use Rattle.std.specs.Prelude.{zero, suc}
use Rattle.shogi_core.specs.declared.moves.Move.{Move}
use Rattle.shogi_core.specs.Codes.{code_of}
use Rattle.shogi_core.specs.Position.{Shogi}
use Rattle.shogi_moves.specs.After.{after_code}
use Rattle.mate_search.specs.Mates.{first_key, longest_defence, line, then_line}

pub line_none : (p : Shogi) (n : ℕ) → n ≡ 0 → line p n ≡ []
unfolding line
line_none p n e = rw e refl

line_step : (p : Shogi) (n : ℕ) → 0 < n → line p n ≡ then_line (λ q. then_line (λ r. line r (n - 1)) q (longest_defence q (n - 1))) p (first_key p (n - 1))
unfolding line
line_step p zero h = absurd (omega arith)
line_step p (suc n) h = let same : suc n - 1 ≡ n = omega arith in rw same refl

-- without a key there is no line
pub line_lost : (p : Shogi) (n : ℕ) → 0 < n → None ≡ first_key p (n - 1) → line p n ≡ []
line_lost p n h e = rw (line_step p n h, sym e) refl

-- with a key and no reply it ends
pub line_ends : (p q : Shogi) (n key : ℕ) → 0 < n → Some key ≡ first_key p (n - 1) → q ≡ after_code p key → None ≡ longest_defence q (n - 1) → line p n ≡ key ∷ []
line_ends p q n key h e f g = rw (line_step p n h, sym e, sym f, sym g) refl

-- with both it goes on
pub line_goes_on : (p q r : Shogi) (n key reply : ℕ) → 0 < n → Some key ≡ first_key p (n - 1) → q ≡ after_code p key → Some reply ≡ longest_defence q (n - 1) → r ≡ after_code q reply → line p n ≡ key ∷ (reply ∷ line r (n - 1))
line_goes_on p q r n key reply h e f g i = rw (line_step p n h, sym e, sym f, sym g, sym i) refl

-- a move that was appended
pub appended : (old new : List Move) (m : Move) → new ≡ old ++ (m ∷ []) → map code_of new ≡ map code_of old ++ (code_of m ∷ [])
appended old new m e = rw e (map-append code_of old (m ∷ []))

-- what was appended and what is left stay the whole
pub one_appended : (old new : List Move) (m : Move) (whole : List ℕ) → new ≡ old ++ (m ∷ []) → map code_of old ++ (code_of m ∷ []) ≡ whole → map code_of new ≡ whole
one_appended old new m whole e before = appended old new m e ∙ before

pub two_appended : (old mid new : List Move) (m r : Move) (rest whole : List ℕ) → mid ≡ old ++ (m ∷ []) → new ≡ mid ++ (r ∷ []) → map code_of old ++ (code_of m ∷ (code_of r ∷ rest)) ≡ whole → map code_of new ++ rest ≡ whole
two_appended old mid new m r rest whole e f before = rw (appended mid new r f, appended old mid m e) ((simp append_assoc) ∙ before)

pub none_appended : (out : List ℕ) (rest whole : List ℕ) → rest ≡ [] → out ++ rest ≡ whole → out ≡ whole
none_appended out rest whole is before = sym (append-nil out) ∙ (ap (λ xs. out ++ xs) (sym is) ∙ before)
