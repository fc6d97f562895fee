use Rattle.std.proofs.Common.{◌≡◌, ◌<◌, ℕ, Ok, Bool, false, refl, sym, ap, subst, rules}
use Rattle.run_records.specs.Ranges.{last_moment}
use Rattle.flow_core.specs.Setups.{IsSetup}
use Rattle.flow_core_rules.specs.Changes.{moment_of}
use Rattle.flow_core.proofs.BeginLemmas.{first_late}
use Rattle.flow_engine_history.proofs.OpenLemmas.{first_refused, some_books}
use Rattle.flow_engine_history.proofs.opening.take_first.Goals as goal

pub returns-in-Ok-false-clause-refused : goal.returns-in-Ok-false-clause-refused
returns-in-Ok-false-clause-refused c =
    let v = c.args.flow.now in
    let own = c.requires.begins in
    let setup : IsSetup v.seen.given = subst IsSetup c.setup.ensures c.setup_law.ensures in
    let some = some_books v.seen.given c.args.run c.args.item.now c.requires.in_range own setup.texts in
    let bad : c.in-Ok-false.field-0 ≡ false = search rules in
    let late : last_moment < own.moment =
    first_late v c.args.item.now v.seen.given c.args.run own.moment c.requires.count c.requires.blank own.is some (c.in-Ok-false.ensures.bad (ap (λ (b : Bool). Ok b) bad)) in
    (refl, subst (λ (n : ℕ). last_moment < n) (sym (ap moment_of own.is)) late)

pub returns-in-Err-clause-refused : goal.returns-in-Err-clause-refused
returns-in-Err-clause-refused c =
    first_refused c.args.flow.now c.args.item.now c.args.flow.now.seen.given c.args.run c.in-Err.error c.requires.count c.requires.blank c.in-Err.ensures.refused
