-- Promise: How all came that was appended since files were opened, whoever opened them, beside any number of filters.
use Rattle.std.specs.Prelude.{◌≡◌, ℕ, List, ◌∷◌, ◌++◌, Some}
use Rattle.cacao_site.specs.DiskCalls.{SameRest}
use Rattle.cacao_site.specs.View.{SiteView}
use Rattle.run_records.specs.declared.act.Act.{Act}
use Rattle.run_records.specs.declared.record.Record.{Record}
use Rattle.flow_core_rules.specs.Givens.{Given}
use Rattle.flow_engine_answers.specs.declared.answers.OperatorAnswer.{OperatorAnswer}
use Rattle.flow_world_steps.specs.Steps.{Steps}
use Rattle.flow_world_steps.specs.Whole.{IsOpened}
use Rattle.flow_world_steps.specs.Worlds.{World}
use Rattle.flow_world_parts.specs.Openings.{IsJournalOpen}
use Rattle.flow_world_laws.specs.Acts.{ActedOn, OfferedActLast}
use Rattle.flow_world_laws.specs.Came.{AppendedBehind, IsInTime, OfferedLast}
use Rattle.flow_world_laws.specs.Expires.{ExpiresArePut}

-- Files were opened, which changed nothing of the site but its disk, and a session began; and what happened from there on, to the
-- site as it is now.
pub record WentOn (given : Given) (run most : ℕ) (answers : List OperatorAnswer) (a b : World) (old new : SiteView) : Type 0 where
  pub begins : IsOpened a given run most answers
  pub rest : SameRest old a.site
  pub steps : Steps a b
  pub to_is : b.site ≡ new

-- How each record and each act came, also those that may stand behind the others after a fault.
pub record AllCame (given : Given) (run : ℕ) (a b : World) (old new : SiteView) : Type 0 where
  pub came : (front back : List Record) (r : Record)
      → b.engine.history.records ≡ (a.engine.history.records ++ front) ++ r ∷ back
      → AppendedBehind given run a b front r × IsInTime old new front r
  pub offered : (added : List Record) (r : Record) → b.engine.history.records ≡ a.engine.history.records ++ added
      → b.notes.unsure ≡ Some r → OfferedLast given run a b r × IsInTime old new added r
  pub acts : (front back : List (ℕ × Act)) (e : ℕ × Act) → b.notes.acted ≡ front ++ e ∷ back → ActedOn a b old new front e
  pub offered_acts : (e : ℕ × Act) → b.notes.unsure_act ≡ Some e → OfferedActLast a b old new e
  pub expires : ExpiresArePut run a b old new

abbrev pub EachWentOn : Type 0
EachWentOn =
    (given : Given) (run most : ℕ) (answers : List OperatorAnswer) (a b : World) (old new : SiteView)
    → WentOn given run most answers a b old new → AllCame given run a b old new

-- So it is where the journal alone was opened: of a session of the engine's end of a wire (`Serves` of `oc2_wire`).
abbrev pub EachAloneCame : Type 0
EachAloneCame =
    (given : Given) (run most : ℕ) (answers : List OperatorAnswer) (a b : World) (old new : SiteView)
    → IsJournalOpen given run old a.site a.engine → IsOpened a given run most answers → Steps a b → b.site ≡ new
    → AllCame given run a b old new
