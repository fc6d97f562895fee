-- Promise: How many device calls a call makes that works with a peer, and how many bytes it hands to the disk.
use Rattle.std.proofs.Common.{inl, inr}
use Rattle.std.specs.Prelude.{ℕ, ◌⊎◌, ◌+◌, List, [], ◌∷◌, map, Option, None, IfSome, option_map, option_to_list, Result, Ok, Err}
use Rattle.cacao_site.specs.View.{SiteView}
use Rattle.run_records.specs.Layout.{act_layout, layout}
use Rattle.run_records.specs.declared.act.Act.{Act}
use Rattle.flow_core.specs.declared.flow_errors.LimitKind.TheVariants as limit
use Rattle.flow_core_rules.specs.Givens.{Given}
use Rattle.flow_engine_answers.specs.declared.answers.OperatorAnswer.{OperatorAnswer}
use Rattle.flow_world_parts.specs.Openings.{RefusesFilters}
use Rattle.flow_world_parts.specs.declared.error.WorldError.{WorldError}
use Rattle.oc2_wire.specs.Answering.{Served}
use Rattle.oc2_wire.specs.Serving.{HasRefused, Serves}
use Rattle.oc2_wire.specs.declared.error.WireError.{WireError}
use Rattle.oc2_wire.specs.declared.error.WireError.TheVariants as error
use Rattle.oc2_wire_link.specs.Peering.{PeersView}
use Rattle.oc2_wire_site.specs.Wires.{WireView}
use Rattle.cacao_cli_words.specs.Requests.{RunRequest}
use Rattle.cacao_cli_ends.specs.Ends.{End}
use Rattle.cacao_cli_ends.specs.FileCauses.{HasTexts}
use Rattle.cacao_cli_ends.specs.Files.{Files, NamedText}
use Rattle.cacao_cli_ends.specs.Lines.{SaysAtMostALine}
use Rattle.cacao_cli_ends.specs.Work.{start_of}
use Rattle.cacao_cli_starts.specs.Usage.{IsFew, Usage, opens_only, reads_to}
use Rattle.cacao_cli_peers.specs.FilterServing.{Accepts, FailsToAccept, LeavesPort, SaysPort, ServesSo}
use Rattle.cacao_cli_peers.specs.Pairing.{ClosesOver, HoldsPair, PairsSo, RefusesOver}

-- ---- `pair`

-- the engine's file, with the records that were appended, and the one that may stand behind them after a fault
abbrev pub serves_usage : {given : Given} {run most : ℕ} {answers : List OperatorAnswer} {old new : SiteView}
    → Serves given run most answers old new → Usage
serves_usage serves = record {
  opened = serves.start.site.disk.reads 0 ∷ [];
  appended = map layout serves.sums.adds.added;
  failed = option_to_list (option_map layout serves.to.notes.unsure);
}

-- or that file could not be opened
abbrev pub refused_usage : {error : WireError} {given : Given} {run most : ℕ} {answers : List OperatorAnswer} {old new : SiteView}
    → HasRefused error given run most answers old new → Usage
refused_usage {error} {given} {run} {most} {answers} {old} {new} (inl first) = opens_only (new.disk.reads 0 ∷ [])
refused_usage (inr later) = serves_usage later.serves

abbrev pub over_usage : {given : Given} {run most : ℕ} {answers : List OperatorAnswer} {old new : SiteView} {how : End}
    → ClosesOver given run most answers old new how ⊎ RefusesOver given run most answers old new how → Usage
over_usage (inl closes) = serves_usage closes.served.serves
over_usage (inr refuses) = refused_usage refuses.refused

-- without a peer nothing is opened
abbrev pub pair_usage : {given : Given} {run most : ℕ} {answers : List OperatorAnswer} {before after : PeersView} {old new : SiteView}
    {last : End} → PairsSo given run most answers before after old new last → Usage
pair_usage (inl unstarted) = opens_only []
pair_usage (inr paired) = over_usage paired.session.held

-- What a `pair` leaves whose texts were accepted: these are the texts of its files, and with what they give a session was held, or no
-- peer came to be; behind it one line was said at most.
pub record LeavesPair (wanted : RunRequest) (told : Option Files) (before after : PeersView) (old new : SiteView) : Type 0 where
  pub texts : List NamedText
  pub has : IfSome told (λ files. HasTexts files wanted texts)
  pub last : End
  pub between : SiteView
  pub holds : HoldsPair before after (start_of wanted texts) old between last
  pub behind : SaysAtMostALine between new

-- it opens no file, or uses what its session uses
abbrev pub PairUsesFew : RunRequest → Option Files → PeersView → PeersView → SiteView → SiteView → Type 0
PairUsesFew wanted told before after old new =
    IsFew (opens_only []) old new
    ⊎ ((left : LeavesPair wanted told before after old new) × IsFew (pair_usage left.holds.holds) old new)

-- ---- `filters`

-- the files of all agents, with the acts that were appended, and the one that may stand behind them after a fault
abbrev pub acts_usage : SiteView → List (ℕ × Act) → Option (ℕ × Act) → Usage
acts_usage opened acted unsure = record {
  opened = reads_to 16 opened.disk;
  appended = map (λ (e : ℕ × Act). act_layout e.1) acted;
  failed = option_to_list (option_map (λ (e : ℕ × Act). act_layout e.1) unsure);
}

-- or the files up to one that could not be opened
abbrev pub unopened_usage : {why : WorldError} {old new : SiteView} → RefusesFilters why old new → Usage
unopened_usage {why} {old} {new} refuses = opens_only (new.disk.reads (refuses.agent + 1) ∷ reads_to refuses.agent refuses.middle.disk)

-- by how they were served
abbrev pub served_usage : (how : Result ℕ WireError) (first last : WireView) → Served how first last → Usage
served_usage (Ok acts) first last h = acts_usage h.0.all.opened h.0.all.acted None
served_usage (Err error.Flooded) first last h = acts_usage h.opened h.acted None
served_usage (Err error.TooLong) first last h = acts_usage h.all.opened h.all.acted None
served_usage (Err error.Link) first last h = acts_usage h.all.opened h.all.acted None
served_usage (Err error.Disk) first last (inl h) = unopened_usage h.refuses
served_usage (Err error.Disk) first last (inr h) = acts_usage h.refuses.opened h.refuses.acted h.refuses.unsure
served_usage (Err (error.Damaged file place)) first last h = unopened_usage h.refuses
served_usage (Err (error.Limit limit.Moment)) first last h = acts_usage h.refuses.opened h.refuses.acted h.refuses.unsure
served_usage (Err (error.Limit limit.Journal)) first last h = acts_usage h.refuses.opened h.refuses.acted h.refuses.unsure
served_usage (Err error.Memory) first last (inl h) = unopened_usage h.refuses
served_usage (Err error.Memory) first last (inr (inl h)) = acts_usage h.all.opened h.all.acted None
served_usage (Err error.Memory) first last (inr (inr h)) = acts_usage h.refuses.opened h.refuses.acted h.refuses.unsure
served_usage (Err other) first last h = opens_only []

-- where no link was accepted, nothing is opened
abbrev pub accepts_usage : {before after : PeersView} {old new : SiteView} {last : End}
    → Accepts before after old new last ⊎ FailsToAccept before after old new last → Usage
accepts_usage (inl accepts) = served_usage accepts.serves.how accepts.serves.first accepts.serves.wire accepts.serves.served
accepts_usage (inr fails) = opens_only []

abbrev pub port_usage : {port : ℕ} {before after : PeersView} {old new : SiteView} {last : End}
    → SaysPort port before after old new last ⊎ LeavesPort before after old new last → Usage
port_usage (inl says) = accepts_usage says.accepts
port_usage (inr leaves) = opens_only []

abbrev pub filters_usage : {before after : PeersView} {old new : SiteView} {last : End} → ServesSo before after old new last → Usage
filters_usage (inl binds) = port_usage binds.goes_on
filters_usage (inr none) = opens_only []

-- What a call of `filters` leaves: what became of its link, and one line said at most behind it.
pub record LeavesFilters (before after : PeersView) (old new : SiteView) : Type 0 where
  pub last : End
  pub between : SiteView
  pub serves : ServesSo before after old between last
  pub behind : SaysAtMostALine between new

abbrev pub FiltersUseFew : PeersView → PeersView → SiteView → SiteView → Type 0
FiltersUseFew before after old new = (left : LeavesFilters before after old new) × IsFew (filters_usage left.serves) old new
