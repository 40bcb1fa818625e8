-- Moves that can leave a king attacked start on an open line with it.
use Rattle.std.proofs.Common.{◌≡◌, ℕ, ◌+◌, ◌-◌, ◌<◌, ◌≤◌, ◌⊎◌, Bool, true, false, refl, sym, ap, subst, ◌∙◌, arith, inl, inr, Option, Some, None, List, [], ◌∷◌}
use Rattle.std.specs.Prelude.{◌&&◌, zero, suc, is_none}
use Rattle.std.specs.List.{list_any, list_all}
use Rattle.std.specs.Ordering.{int_eq}
use Rattle.std.proofs.lemmas.Bool.{cases_lt, cases_eq, false_from_ne_true, both_ways, and_parts, and_from, or_cases, or_left, or_right}
use Rattle.std.proofs.lemmas.Bool.Decides.{Decides-int_eq}
use Rattle.shogi_core.specs.declared.offset.Offset.{Offset}
use Rattle.shogi_core.specs.declared.piece.Color.{Color}
use Rattle.shogi_core.specs.declared.piece.Color.TheVariants.{Black, White}
use Rattle.shogi_core.specs.declared.piece.Role.{Role}
use Rattle.shogi_core.specs.declared.piece.Role.TheVariants.{King}
use Rattle.shogi_core.specs.declared.piece.Piece.{Piece}
use Rattle.shogi_core.specs.Attack.{is_attacked_from, is_attacked, is_open_king, in_check}
use Rattle.shogi_core.specs.Below.{some_below, all_below}
use Rattle.shogi_core.specs.Cell.{is_piece_of, is_king}
use Rattle.shogi_core.specs.Movement.{Cells, away, leads, offset_by, is_step_empty, is_empty, slides_across, slides, for_side, slides_of, has_slide, has_step, cell_reaches, reaches, piece_at}
use Rattle.shogi_core.specs.Pieces.{opponent_of}
use Rattle.shogi_core.proofs.Below.{all_below_at, all_below_yes, some_below_at, some_below_not, some_below_no}
use Rattle.shogi_core.specs.Lines.{around, are_lined, is_line_to_king, is_lined_with_king}
use Rattle.shogi_core.proofs.Back.{away_on, leads_is, is_leads}

-- ---- the directions of slides

abbrev pub same_way : Offset → Offset → Bool
same_way p q = int_eq p.file q.file && int_eq p.rank q.rank

pub same_way_is : (p q : Offset) → same_way p q ≡ true → p ≡ q
same_way_is p q e =
    let parts : (int_eq p.file q.file ≡ true) × (int_eq p.rank q.rank ≡ true) = and_parts _ _ e in
    ap (λ f. offset_by f p.rank) ((Decides-int_eq p.file q.file).0 parts.0) ∙ ap (offset_by q.file) ((Decides-int_eq p.rank q.rank).0 parts.1)

pub one_of : (test : Offset → Bool) (p : Offset) (ds : List Offset) → list_any (same_way p) ds ≡ true → test p ≡ true → list_any test ds ≡ true
one_of test p [] e h = e
one_of test p (d ∷ ds) e h = elim (or_cases _ _ e) [
  | inl here ↦ or_left _ _ (subst (λ q. test q ≡ true) (same_way_is p d here) h)
  | inr later ↦ or_right (test d) _ (one_of test p ds later h)
]

-- a test that passes for an offset passes for one of each list that contains it
pub list_any_among : (test : Offset → Bool) (g : Offset → Offset) (os ds : List Offset) → list_all (λ o. list_any (same_way (g o)) ds) os ≡ true → list_any (λ o. test (g o)) os ≡ true → list_any test ds ≡ true
list_any_among test g [] ds each e = absurd (cc)
list_any_among test g (o ∷ os) ds each e =
    let parts : (list_any (same_way (g o)) ds ≡ true) × (list_all (λ p. list_any (same_way (g p)) ds) os ≡ true) = and_parts _ _ each in
    elim (or_cases (test (g o)) _ e) [
      | inl here ↦ one_of test (g o) ds parts.0 here
      | inr later ↦ list_any_among test g os ds parts.1 later
    ]

pub slides_around : (color : Color) (role : Role) → list_all (λ o. list_any (same_way (for_side color o)) around) (slides_of role) ≡ true
slides_around Black King = refl
slides_around Black _ = refl
slides_around White King = refl
slides_around White _ = refl

-- a weaker test passes if a stronger one does
pub list_any_kept : (s t : Offset → Bool) (os : List Offset) → ((o : Offset) → s o ≡ true → t o ≡ true) → list_any s os ≡ true → list_any t os ≡ true
list_any_kept s t [] h e = e
list_any_kept s t (o ∷ os) h e = elim (or_cases _ _ e) [
  | inl here ↦ or_left _ _ (h o here)
  | inr later ↦ or_right (t o) _ (list_any_kept s t os h later)
]

pub some_below_which : (n : ℕ) (test : ℕ → Bool) → some_below n test ≡ true → (i : ℕ) × (i < n) × (test i ≡ true)
unfolding some_below
some_below_which zero test e = absurd (cc)
some_below_which (suc n) test e = elim (or_cases _ _ e) [
  | inl below ↦ let rest = some_below_which n test below in (rest.0, omega arith, rest.2)
  | inr here ↦ (n, omega arith, here)
]

-- ---- a slide after a move

module _ (old new : Cells) (Left : ℕ → Type 0) (opened : (x : ℕ) → is_none (piece_at new x) ≡ true → (is_none (piece_at old x) ≡ true) ⊎ Left x) where
  -- an empty square of the slide was empty before, or the move left it
  clear_here : (o : Offset) (a i : ℕ) → is_step_empty new o a i ≡ true → (is_step_empty old o a i ≡ true) ⊎ ((x : ℕ) × (away (i + 1) o a ≡ Some x) × Left x)
  clear_here o a i e = found (away (i + 1) o a) refl e
    where
      found : (s : Option ℕ) → away (i + 1) o a ≡ s → is_empty new s ≡ true → (is_step_empty old o a i ≡ true) ⊎ ((x : ℕ) × (away (i + 1) o a ≡ Some x) × Left x)
      found None at e = absurd (cc)
      found (Some x) at e = elim (opened x e) [
        | inl was ↦ inl (ap (is_empty old) at ∙ was)
        | inr left ↦ inr (x, at, left)
      ]

  -- the squares of a slide were empty, or a vacated one had a slide to the end
  behind : (o : Offset) (a n s d : ℕ) → n < 8 → away (n + 1) o a ≡ Some s → all_below n (is_step_empty new o a) ≡ true
      → ((x : ℕ) × Left x × (slides old o x s ≡ true)) ⊎ ((i : ℕ) → i < n → n ≤ i + d → is_step_empty old o a i ≡ true)
  behind o a n s zero small there clear = inr (λ i l g. absurd (omega arith))
  behind o a n s (suc d) small there clear = elim (behind o a n s d small there clear) [
    | inl lined ↦ inl lined
    | inr rest ↦ elim (cases_lt d n) [
      | inl more ↦ elim (clear_here o a (n - suc d) (all_below_at n (is_step_empty new o a) (n - suc d) clear (omega arith))) [
        | inl was ↦ inr (λ i l g. elim (cases_eq i (n - suc d)) [
          | inl same ↦ subst (λ (k : ℕ). is_step_empty old o a k ≡ true) (sym same) was
          | inr other ↦ rest i l (omega arith)
        ])
        | inr left ↦ (
            let x = left.0 in
            let at : away (n - suc d + 1) o a ≡ Some x = left.1 in
            let sum : n - suc d + 1 + (d + 1) ≡ n + 1 = omega arith in
            let led : away (d + 1) o x ≡ Some s = away_on (n - suc d + 1) (d + 1) o a x at ∙ (ap (λ (k : ℕ). away k o a) sum ∙ there) in
            inl (
              x,
              left.2,
              some_below_at 8 (slides_across old o x s) d (omega arith) (and_from _ _ (is_leads _ s led) (all_below_yes d (is_step_empty old o x) (λ j l.
                  let further : n - suc d + 1 + (j + 1) ≡ n - suc d + 1 + j + 1 = omega arith in
                  ap (is_empty old) (away_on (n - suc d + 1) (j + 1) o a x at ∙ ap (λ (k : ℕ). away k o a) further) ∙ rest (n - suc d + 1 + j) (omega arith) (omega arith)))),
            ))
      ]
      | inr all ↦ inr (λ i l g. rest i l (omega arith))
    ]
  ]

  pub slides_was : (o : Offset) (a s : ℕ) → slides new o a s ≡ true → ((x : ℕ) × Left x × (slides old o x s ≡ true)) ⊎ (slides old o a s ≡ true)
  slides_was o a s e =
      let which = some_below_which 8 (slides_across new o a s) e in
      let n = which.0 in
      let parts : (leads (n + 1) o a s ≡ true) × (all_below n (is_step_empty new o a) ≡ true) = and_parts _ _ which.2 in
      elim (behind o a n s n which.1 (leads_is _ s parts.0) parts.1) [
        | inl lined ↦ inl lined
        | inr clear ↦ inr (some_below_at 8 (slides_across old o a s) n which.1 (and_from _ _ parts.0 (all_below_yes n (is_step_empty old o a) (λ i l. clear i l (omega arith)))))
      ]

  -- if no vacated square is on an open line with s, a slide to s existed before
  has_slide_was : (piece : Piece) (a s : ℕ) → ((x : ℕ) → Left x → are_lined old x s ≡ false) → has_slide new piece a s ≡ true → has_slide old piece a s ≡ true
  unfolding are_lined
  has_slide_was piece a s free e = each (slides_of piece.role) (slides_around piece.color piece.role) e
    where
      each : (os : List Offset) → list_all (λ o. list_any (same_way (for_side piece.color o)) around) os ≡ true → list_any (λ o. slides new (for_side piece.color o) a s) os ≡ true → list_any (λ o. slides old (for_side piece.color o) a s) os ≡ true
      each [] all e = e
      each (o ∷ os) all e =
          let parts : (list_any (same_way (for_side piece.color o)) around ≡ true) × (list_all (λ p. list_any (same_way (for_side piece.color p)) around) os ≡ true) = and_parts _ _ all in
          elim (or_cases _ _ e) [
            | inl here ↦ elim (slides_was (for_side piece.color o) a s here) [
              | inl lined ↦ absurd (both_ways (list_any (λ d. slides old d lined.0 s) around) (free lined.0 lined.1) (one_of (λ d. slides old d lined.0 s) (for_side piece.color o) around parts.0 lined.2))
              | inr was ↦ or_left _ _ was
            ]
            | inr later ↦ or_right (slides old (for_side piece.color o) a s) _ (each os parts.1 later)
          ]

  -- a piece that reaches a square now would have reached it from the same square before
  pub reach_was : (cell : Option Piece) (a s : ℕ) → ((x : ℕ) → Left x → are_lined old x s ≡ false) → cell_reaches new cell a s ≡ true → cell_reaches old cell a s ≡ true
  reach_was None a s free e = e
  reach_was (Some piece) a s free e = elim (or_cases (has_step piece a s) (has_slide new piece a s) e) [
    | inl step ↦ or_left (has_step piece a s) (has_slide old piece a s) step
    | inr slide ↦ or_right (has_step piece a s) (has_slide old piece a s) (has_slide_was piece a s free slide)
  ]

  -- an unattacked square stays so if new pieces do not reach it and it has no open line to a vacated square
  pub attacked_was_but : (color : Color) (s : ℕ) → ((a : ℕ) → is_piece_of color (piece_at new a) ≡ true → (piece_at old a ≡ piece_at new a) ⊎ (reaches new a s ≡ false))
      → ((x : ℕ) → Left x → are_lined old x s ≡ false) → is_attacked old color s ≡ false → is_attacked new color s ≡ false
  unfolding reaches
  attacked_was_but color s kept free safe = some_below_no 81 (is_attacked_from new color s) (λ a l. false_from_ne_true (is_attacked_from new color s a) (λ e.
      let parts : (is_piece_of color (piece_at new a) ≡ true) × (reaches new a s ≡ true) = and_parts _ _ e in
      elim (kept a parts.0) [
        | inl same ↦ (
            let was : is_attacked_from old color s a ≡ true = and_from _ _ (ap (is_piece_of color) same ∙ parts.0) (ap (λ cell. cell_reaches old cell a s) same ∙ reach_was (piece_at new a) a s free parts.1) in
            both_ways (is_attacked_from old color s a) (some_below_not 81 (is_attacked_from old color s) a safe l) was)
        | inr short ↦ both_ways (reaches new a s) short parts.1
      ]))

  pub check_was_but : (color : Color) → ((a : ℕ) → is_piece_of (opponent_of color) (piece_at new a) ≡ true → (piece_at old a ≡ piece_at new a) ⊎ ((k : ℕ) → k < 81 → is_king color (piece_at new k) ≡ true → reaches new a k ≡ false))
      → ((k : ℕ) → is_king color (piece_at new k) ≡ true → piece_at old k ≡ piece_at new k)
      → ((x : ℕ) → Left x → is_lined_with_king old color x ≡ false) → in_check old color ≡ false → in_check new color ≡ false
  unfolding in_check is_lined_with_king
  check_was_but color kept kings free safe = some_below_no 81 (is_open_king new color) (λ k l. false_from_ne_true (is_open_king new color k) (λ e.
      let parts : (is_king color (piece_at new k) ≡ true) × (is_attacked new (opponent_of color) k ≡ true) = and_parts _ _ e in
      let king : is_king color (piece_at old k) ≡ true = ap (is_king color) (kings k parts.0) ∙ parts.0 in
      let shut : is_attacked old (opponent_of color) k ≡ false = false_from_ne_true _ (λ attacked. both_ways (is_open_king old color k) (some_below_not 81 (is_open_king old color) k safe l) (and_from _ _ king attacked)) in
      both_ways (is_attacked new (opponent_of color) k)
      (attacked_was_but (opponent_of color) k (λ a own. elim (kept a own) [ inl same ↦ inl same | inr short ↦ inr (short k l parts.0) ])
      (λ x left. false_from_ne_true _ (λ lined. both_ways (is_line_to_king old color x k) (some_below_not 81 (is_line_to_king old color x) k (free x left) l) (and_from _ _ king lined))) shut) parts.1))

  -- an unattacked square stays so if no piece is new and it has no open line to a vacated square
  pub attacked_was : (color : Color) (s : ℕ) → ((a : ℕ) → is_piece_of color (piece_at new a) ≡ true → piece_at old a ≡ piece_at new a)
      → ((x : ℕ) → Left x → are_lined old x s ≡ false) → is_attacked old color s ≡ false → is_attacked new color s ≡ false
  attacked_was color s kept = attacked_was_but color s (λ a own. inl (kept a own))

  pub check_was : (color : Color) → ((a : ℕ) → is_piece_of (opponent_of color) (piece_at new a) ≡ true → piece_at old a ≡ piece_at new a)
      → ((k : ℕ) → is_king color (piece_at new k) ≡ true → piece_at old k ≡ piece_at new k)
      → ((x : ℕ) → Left x → is_lined_with_king old color x ≡ false) → in_check old color ≡ false → in_check new color ≡ false
  check_was color kept = check_was_but color (λ a own. inl (kept a own))

-- ---- a check that stays

module _ (old new : Cells) (to : ℕ) (shut : (x : ℕ) → is_none (piece_at old x) ≡ true → (is_none (piece_at new x) ≡ true) ⊎ (x ≡ to)) where
  -- an empty square stays empty unless the move ends there
  stays_clear : (o : Offset) (a i : ℕ) → is_step_empty old o a i ≡ true → (is_step_empty new o a i ≡ true) ⊎ (away (i + 1) o a ≡ Some to)
  stays_clear o a i e = found (away (i + 1) o a) refl e
    where
      found : (s : Option ℕ) → away (i + 1) o a ≡ s → is_empty old s ≡ true → (is_step_empty new o a i ≡ true) ⊎ (away (i + 1) o a ≡ Some to)
      found None at e = absurd (cc)
      found (Some x) at e = elim (shut x e) [
        | inl still ↦ inl (ap (is_empty new) at ∙ still)
        | inr there ↦ inr (at ∙ ap Some there)
      ]

  -- a slide to s stays unless the move ends on its line
  pub slide_stays : (o : Offset) (a s : ℕ) → slides old o to s ≡ false → slides old o a s ≡ true → slides new o a s ≡ true
  slide_stays o a s off e =
      let which = some_below_which 8 (slides_across old o a s) e in
      let n = which.0 in
      let parts : (leads (n + 1) o a s ≡ true) × (all_below n (is_step_empty old o a) ≡ true) = and_parts _ _ which.2 in
      some_below_at 8 (slides_across new o a s) n which.1 (and_from _ _ parts.0 (all_below_yes n (is_step_empty new o a) (λ i l. elim (stays_clear o a i (all_below_at n (is_step_empty old o a) i parts.1 l)) [
        | inl clear ↦ clear
        | inr at ↦ absurd (
            let sum : i + 1 + (n - suc i + 1) ≡ n + 1 = omega arith in
            let led : away (n - suc i + 1) o to ≡ Some s = away_on (i + 1) (n - suc i + 1) o a to at ∙ (ap (λ (k : ℕ). away k o a) sum ∙ leads_is _ s parts.0) in
            both_ways (slides old o to s) off
            (some_below_at 8 (slides_across old o to s) (n - suc i) (omega (arith, which.1)) (and_from _ _ (is_leads _ s led) (all_below_yes (n - suc i) (is_step_empty old o to) (λ j m.
            let further : i + 1 + (j + 1) ≡ i + 1 + j + 1 = omega arith in
            ap (is_empty old) (away_on (i + 1) (j + 1) o a to at ∙ ap (λ (k : ℕ). away k o a) further) ∙ all_below_at n (is_step_empty old o a) (i + 1 + j) parts.1 (omega arith))))))
      ])))
