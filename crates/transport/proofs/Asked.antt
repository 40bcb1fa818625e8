-- The calls that a wire was asked for, call after call.
use Rattle.std.proofs.Common.{List, [], ◌++◌, Option, None, Some, sym, ap, ◌∙◌, append_assoc, append-nil}
use Rattle.transport.specs.Asked.{Asks}

module _ {C : Type 0} where
  pub asks_none : (a : Option (List C)) → Asks a a []
  asks_none None = tt
  asks_none (Some before) = ap (λ (l : List C). Some l) (sym (append-nil before))

  pub asks_then : (a b c : Option (List C)) (x y : List C) → Asks a b x → Asks b c y → Asks a c (x ++ y)
  asks_then None b c x y p q = tt
  asks_then (Some before) b c x y p q =
      let r : Asks (Some (before ++ x)) c y = rw p at q in
      r ∙ ap (λ (l : List C). Some l) (append_assoc before x y)
