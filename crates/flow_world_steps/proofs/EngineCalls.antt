-- What the engine's calls do to agreement.
use Rattle.std.proofs.Common.{◌≡◌, ◌≢◌, ◌⊎◌, inl, inr, ℕ, Bool, true, false, cond, List, [], ◌∷◌, ◌++◌, take, refl, subst, ap, arith}
use Rattle.std.specs.Prelude.{IsSome, Contains, ◌==◌}
use Rattle.std.proofs.lemmas.Bool.{eqb-true}
use Rattle.std.specs.List.{AllByRecursion}
use Rattle.cacao_site.specs.View.{SiteView, LinkView}
use Rattle.cacao_site.specs.declared.parcel.Parcel.{Parcel}
use Rattle.cacao_site.specs.DiskCalls.{OnlyFile}
use Rattle.cacao_site.specs.LinkCalls.{Gains}
use Rattle.cacao_site.specs.SayCalls.{SaysOnly}
use Rattle.cacao_site.specs.SiteCalls.{Puts}
use Rattle.cacao_site.specs.Sound.{IsSound}
use Rattle.cacao_site.proofs.Beats.{each-weaken}
use Rattle.run_records.specs.Ranges.{InRange}
use Rattle.run_records.specs.declared.record.Record.{Record}
use Rattle.run_records.specs.declared.record.Record.TheVariants as entry
use Rattle.flow_core_rules.specs.Laws.{record_of_issue}
use Rattle.flow_core_rules.specs.State.{Shown}
use Rattle.flow_core_rules.specs.declared.issues.Issue.{Issue}
use Rattle.flow_laws.specs.Beats.{IsFurther}
use Rattle.flow_laws.specs.Held.{HasOpenSend, plain}
use Rattle.flow_laws.specs.Images.{IsRecords}
use Rattle.flow_laws.specs.Journals.{IsShownBefore as ShowsBefore}
use Rattle.flow_laws.proofs.Calls.{since_command, since_line, since_record}
use Rattle.flow_laws.proofs.OneList.{records_of_layout}
use Rattle.flow_engine.specs.HistoryCalls.{Offers}
use Rattle.flow_engine.specs.HistoryView.{HistoryView}
use Rattle.flow_engine.specs.Histories.{IsHistory, IsLineAt, IsShownBefore}
use Rattle.flow_engine.specs.EngineCalls.{IsOpen, Sends, command_of}
use Rattle.flow_engine.specs.EngineView.{EngineView}
use Rattle.flow_world_steps.specs.Sides.{IsUp, IsWhole}
use Rattle.flow_world_steps.proofs.Records.{has_records, run_known}
use Rattle.flow_world_steps.proofs.Sites.{HasKeptTo, some_gained, some_more, some_same}

all_more : {A : Type 0} (P : A → Type 0) (xs : List A) (x : A) → AllByRecursion P xs → P x → AllByRecursion P (xs ++ x ∷ [])
all_more P [] x all is = (is, tt)
all_more P (y ∷ xs) x all is = (all.0, all_more P xs x all.1 is)

-- ---- appends

-- a record may have been appended
pub offers_kept : (start : SiteView) (v : EngineView) (IsNext : Record → Type 0) (old new : SiteView) → IsSound old → IsWhole v old → (offers : Offers v.history IsNext old new)
    → HasKeptTo start old → IsFurther plain old old.disk.beat v.history.records offers.comes.next → HasKeptTo start new
offers_kept start v IsNext old new sound whole offers kept further =
    let records = v.history.records in
    let next = offers.comes.next in
    let ranges = whole.engine.history.ranges in
    let only : OnlyFile 0 old new (λ image. IsRecords image records ⊎ IsRecords image (records ++ next ∷ [])) = record {
      each = each-weaken offers.file.each (λ told image is. elim is [
        | inl before ↦ inl (records_of_layout image records ranges before)
        | inr after ↦ inr (records_of_layout image (records ++ next ∷ []) (all_more InRange records next ranges offers.in_range) after)
      ]);
      others = offers.file.others;
      rest = offers.file.rest;
    } in
    let some = sound.images 0 old.disk.beat kept.agreed.told (omega arith) in
    record {
      agreed = since_record plain start old new kept.agreed sound records next only (record { image = some.0; left = some.1 }) (has_records v old whole kept.agreed.told) further;
      puts = some_same old.link.puts new.link.puts (ap (λ (l : LinkView). l.puts) offers.file.rest.link) kept.puts;
      pending = some_same old.link.pending new.link.pending (ap (λ (l : LinkView). l.pending) offers.file.rest.link) kept.pending;
    }

-- ---- commands

not_false : (a : ℕ) → a ≢ 0 → (b : Bool) → (a == 0) ≡ b → b ≡ false
not_false a ne true e = absurd (ne (eqb-true a 0 e))
not_false a ne false e = refl

-- the record of an issue of a filter is its Send
send_of : (issue : ℕ) (it : Issue) → it.agent ≢ 0 → record_of_issue issue it ≡ entry.Send it.task issue it.agent it.moment it.bytes
send_of issue it ne =
    ap (λ (b : Bool). cond b (entry.Ask it.task issue it.moment it.bytes) (entry.Send it.task issue it.agent it.moment it.bytes)) (not_false it.agent ne (it.agent == 0) refl)

-- the command of an open issue has an open Send
open_send : (v : EngineView) (site : SiteView) (issue : ℕ) (it : Issue) → IsUp v site → IsOpen v.history issue it → HasOpenSend v.history.records (command_of v.history issue it)
open_send v site issue it up is = record {
  of_run = run_known v.history up.has_file.engine.history up.begun;
  sent = record {
    task = it.task;
    moment = it.moment;
    has = subst (λ (r : Record). Contains v.history.records r) (send_of issue it is.waiting.of_filter) is.has.issued;
  };
  is_open = is.has.waits is.waiting.waits;
}

pub put_keeps_link : (old new : SiteView) (parcel : Parcel) → Puts parcel old new → IsSome old.link.puts → IsSome old.link.pending → IsSome new.link.puts × IsSome new.link.pending
put_keeps_link old new parcel puts some pending = (
  elim puts.puts [
    | inl gained ↦ some_gained old.link.puts new.link.puts _ gained some
    | inr lost ↦ some_same old.link.puts new.link.puts lost.0 some
  ],
  some_more old.link.pending new.link.pending _ puts.pending.1 pending,
)

-- a command was put, or lost
pub command_kept : (start : SiteView) (v w : EngineView) (issue moment : ℕ) (old new : SiteView) → IsSound old → IsUp v old → Sends v w issue moment old new → HasKeptTo start old → HasKeptTo start new
command_kept start v w issue moment old new sound up sends kept =
    let parcel = command_of v.history issue sends.it in
    let link = put_keeps_link old new parcel sends.put kept.puts kept.pending in
    record {
      agreed = since_command plain start old new kept.agreed sound parcel sends.put refl
          (λ image left. record {
            records = v.history.records;
            are = has_records v old up.has_file kept.agreed.told image left;
            so = open_send v old issue sends.it up sends.is_open;
          });
      puts = link.0;
      pending = link.1;
    }

-- ---- lines

shows_before : (h : HistoryView) (records : List Record) (before : Shown) → IsHistory h → IsShownBefore h.seen.given h.seen.run records before → ShowsBefore records before
shows_before h [] before history shows = tt
shows_before h (first ∷ others) before history shows = record {
  given = h.seen.given;
  run = h.seen.run;
  state = shows.state;
  accepted = history.accepted;
  leads = shows.leads;
  is = shows.is;
}

-- the line of a record was said
pub line_kept : (start : SiteView) (v : EngineView) (n : ℕ) (bytes : List ℕ) (old new : SiteView) → IsSound old → IsWhole v old → IsLineAt v.history n bytes → SaysOnly old new
    → Gains old.link.said (new.disk.beat, bytes) new.link.said → HasKeptTo start old → HasKeptTo start new
line_kept start v n bytes old new sound whole line says gained kept = record {
  agreed = since_line plain start old new kept.agreed sound bytes says.disk says.puts gained
      (λ image left. record {
        records = v.history.records;
        are = has_records v old whole kept.agreed.told image left;
        so = record {
          n = n;
          it = line.it;
          before = line.before;
          stands = line.there;
          shows = shows_before v.history (take n v.history.records) line.before whole.engine.history line.shows;
          is = line.is;
        };
      });
  puts = some_same old.link.puts new.link.puts says.puts kept.puts;
  pending = some_same old.link.pending new.link.pending says.pending kept.pending;
}
