use Rattle.usi_arguments.proofs.Numbers.{if_none}
use Rattle.usi_arguments.proofs.host.host_of.Goals as goal

pub returns-in_err-slots-clause-if_none : goal.returns-in_err-slots-clause-if_none
returns-in_err-slots-clause-if_none c = if_none c.from_residual.result _ (λ host range names. c.in_err-slots.ensures.if_none host.slots range.0 names.0)

pub returns-in_err-entries-clause-if_none : goal.returns-in_err-entries-clause-if_none
returns-in_err-entries-clause-if_none c = if_none c.from_residual-in_err-entries.result _ (λ host range names. c.in_err-entries.ensures.if_none host.entries range.1 names.1)

pub returns-in_err-slice-clause-if_none : goal.returns-in_err-slice-clause-if_none
returns-in_err-slice-clause-if_none c = if_none c.from_residual-in_err-slice.result _ (λ host range names. c.in_err-slice.ensures.if_none host.slice range.2 names.2)

pub returns-in_err-setup-clause-if_none : goal.returns-in_err-setup-clause-if_none
returns-in_err-setup-clause-if_none c = if_none c.from_residual-in_err-setup.result _ (λ host range names. c.in_err-setup.ensures.if_none host.setup range.3 names.3)
