use Rattle.std.proofs.Common.{◌≡◌, refl, ◌∙◌, ap}
use Rattle.usi_session.specs.Walked.{Walked}
use Rattle.usi_session.proofs.Walk.{walked_all}
use Rattle.usi_session.proofs.pv_walk.PvWalk.moves.Goals as goal

pub returns : goal.returns
returns c =
    let s = c.self.inside in
    let whole : s.plies ≡ 0 = ap (λ (w : Walked). w.plies) c.self.view_is ∙ c.requires.whole in
    c.as_slice.ensures.value ∙ walked_all s.moves.items _ s.at s.eval s.plies whole refl ∙ ap (λ (w : Walked). w.pv) c.self.view_is
