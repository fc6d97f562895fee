-- What a take of the filters' end gives.
use Rattle.std.proofs.Common.{◌≡◌, inl, inr, ℕ, ◌≤◌, sym, ap, arith}
use Rattle.std.specs.Prelude.{Option, Some, None, IfOk, MatchOption, OnErr, Result, Ok, Err}
use Rattle.std.proofs.lemmas.Option.{none-some}
use Rattle.cacao_site.specs.SiteCalls.{TakesNone, TakesOnly, TakesSome}
use Rattle.cacao_site.specs.Sound.{IsSound}
use Rattle.cacao_site.specs.View.{LinkView}
use Rattle.cacao_site.specs.declared.parcel.Parcel.{Parcel}
use Rattle.oc2_wire_site.specs.LineLinks.{LinesView, taken_of}
use Rattle.oc2_wire_site.specs.WireCalls.{TakesLine}
use Rattle.oc2_wire_site.specs.Wires.{WireView}
use Rattle.oc2_wire_site.specs.declared.link_state.LinkState.TheVariants as state
use Rattle.oc2_wire.specs.FilterTurns.{IsAnswering}
use Rattle.oc2_wire.specs.Turns.{TakesAs, TakesNext, TakesNothing}
use Rattle.oc2_wire.proofs.LentWires.{whole_or_not}

-- what the clauses of a take say
pub record Took {E : Type 0} (r : Result (Option Parcel) E) (old new : WireView) : Type 0 where
  pub sound : IsSound old.site
  pub only : TakesOnly old.site new.site
  pub taken : IfOk r (λ taken. MatchOption taken (TakesNone old.site new.site) (λ parcel. TakesSome parcel old.site new.site))
  pub memory : OnErr r (new.site.link ≡ old.site.link)
  pub line : TakesLine (taken_of r) old new

module _ (first : ℕ) (old new : WireView) (answering : IsAnswering first old) where
  -- a command was taken
  takes_next : (parcel : Parcel) → IsSound old.site → TakesOnly old.site new.site → TakesSome parcel old.site new.site → TakesLine (Some parcel) old new → TakesNext parcel old new
  takes_next parcel sound only some line = elim (whole_or_not old.lines.state) [
    | inr broken ↦ absurd (none-some parcel (sym (line.takes.broken broken).0))
    | inl whole ↦
        let reads = line.takes.answers answering.answering whole in
        record {
          sound = sound;
          only = only;
          some = some;
          is_command = record {
            addressed = record { low = reads.spells.carried.agent_low; high = reads.spells.carried.agent_high; small = reads.spells.carried.short };
            command = reads.command;
          };
          reads = reads;
          asking = line.asking;
          later = let more = reads.passes.passed in omega (arith, more);
          whole = reads.whole;
        }
  ]

  later_none : TakesLine None old new → old.lines.passed ≤ new.lines.passed
  later_none line = elim (whole_or_not old.lines.state) [
    | inr broken ↦ let same = ap (λ (l : LinesView). l.passed) (line.takes.broken broken).1 in omega (arith, same)
    | inl whole ↦ let more = (line.takes.answers answering.answering whole).passes.passed in omega (arith, more)
  ]

  takes_nothing : IsSound old.site → TakesOnly old.site new.site → new.site.link.taken ≡ old.site.link.taken → TakesLine None old new → TakesNothing old new
  takes_nothing sound only same line = record {
    sound = sound;
    only = only;
    taken = same;
    reads = λ whole. line.takes.answers answering.answering whole;
    broken = λ broken. (line.takes.broken broken).1;
    asking = line.asking;
    later = later_none line;
  }

  pub took_as : {E : Type 0} (r : Result (Option Parcel) E) → Took r old new → TakesAs (taken_of r) old new
  took_as (Ok (Some parcel)) took = takes_next parcel took.sound took.only took.taken took.line
  took_as (Ok None) took = takes_nothing took.sound took.only took.taken.taken took.line
  took_as (Err error) took = takes_nothing took.sound took.only (ap (λ (l : LinkView). l.taken) took.memory) took.line
  -- ---- why none was
