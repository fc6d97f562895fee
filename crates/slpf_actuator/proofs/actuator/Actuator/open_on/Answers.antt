use Rattle.std.proofs.Common.{rules, ◌≡◌, ◌∙◌, Err, sym, ap}
use Rattle.run_journal.specs.declared.error.JournalError.{JournalError}
use Rattle.slpf_actuator.specs.declared.error.ActError.TheVariants.{Broken, Full}
use Rattle.slpf_actuator.proofs.ErrorLemmas.{from_broken, from_full}
use Rattle.slpf_actuator.proofs.actuator.Actuator.open_on.Goals as goal

pub returns-in-Err-clause-no_other : goal.returns-in-Err-clause-no_other
returns-in-Err-clause-no_other g c = λ needed.
    let says = c.in-Err.ensures.no_other needed in (
      λ e. let same : c.from.result ≡ Broken = cc in says.0 (ap (λ (j : JournalError). Err j) (from_broken c.in-Err.error (sym c.from.ensures ∙ same))),
      λ e. let same : c.from.result ≡ Full needed = cc in says.1 (ap (λ (j : JournalError). Err j) (from_full c.in-Err.error needed (sym c.from.ensures ∙ same))),
    )

pub returns-in-Ok-read_acts-clause-ready : goal.returns-in-Ok-read_acts-clause-ready
returns-in-Ok-read_acts-clause-ready g c = record {
  low = search rules;
  high = search rules;
  history = search rules;
  images = λ w told image left. search rules;
}
