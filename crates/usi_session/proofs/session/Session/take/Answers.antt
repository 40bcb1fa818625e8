use Rattle.std.proofs.Common.{◌≡◌, ℕ, List, take, drop, ◌++◌, sym, ap, subst, ◌∙◌}
use Rattle.std.proofs.lemmas.List.{append_assoc, take-append-drop}
use Rattle.usi_lines.specs.Lines.{ahead}
use Rattle.usi_session.specs.Due.{SessionView, due, owed}
use Rattle.usi_session.proofs.session.Session.take.Goals as goal

kept : (n : ℕ) (queued rest owed : List ℕ) → rest ≡ drop n queued → queued ++ owed ≡ take n queued ++ (rest ++ owed)
kept n queued rest owed e = ap (λ (l : List ℕ). l ++ owed) (sym (take-append-drop n queued)) ∙ append_assoc (take n queued) (drop n queued) owed ∙ ap (λ (l : List ℕ). take n queued ++ (l ++ owed)) (sym e)

-- the dropped bytes are a prefix of the replies due
pub returns-clause-due : goal.returns-clause-due
returns-clause-due c b = λ x. subst (λ (session : SessionView). due session x ≡ take b.args.n session.queued ++ (b.take.new.self ++ owed b.self.inside.state b.self.inside.go_task (ahead b.self.inside.input x))) b.self.view_is
    (kept b.args.n b.self.inside.queue b.take.new.self (owed b.self.inside.state b.self.inside.go_task (ahead b.self.inside.input x)) b.take.ensures)
