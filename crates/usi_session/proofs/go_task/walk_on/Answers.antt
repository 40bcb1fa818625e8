use Rattle.std.proofs.Common.{◌∙◌, List, ◌∷◌, refl, sym, ap}
use Rattle.usi_session.specs.Roots.{Root, root_of}
use Rattle.usi_session.proofs.RootLaws.{pv_roots-above}
use Rattle.usi_session.proofs.TellsLaws.{none_ended, one_ended, told_value}
use Rattle.usi_session.proofs.go_task.walk_on.Goals as goal

pub returns-in_err-found-clause-told : goal.returns-in_err-found-clause-told
returns-in_err-found-clause-told g c =
    none_ended _ _ _ _ _ (record { calls = c.advance.ensures.calls.calls; each = c.advance.ensures.calls.each }) refl

pub returns-clause-told : goal.returns-clause-told
returns-clause-told g c =
    let walk = c.args.walk.now in
    one_ended _ _ _ _ _ _ (told_value _ _ _ c.args.search.now c.advance.new.self _ c.in_ok-found.found walk.at walk.eval walk.plies c.requires.under c.in_ok-found.ensures.again c.in_ok-found.ensures.slice.over c.in_ok-found.ensures.finds.below c.in_ok-found.ensures.finds.value c.in_ok-found.ensures.finds.best c.in_ok-found.ensures.told)
    (pv_roots-above walk.at walk.eval walk.plies c.requires.some ∙ ap (λ (roots : List Root). root_of walk.at walk.eval walk.plies ∷ roots) (sym c.follow.ensures.roots))
