-- What each call of a session does to what the engine's end keeps.
use Rattle.std.proofs.Common.{◌≡◌, ◌≢◌, ◌⊎◌, inl, inr, ℕ, ◌≤◌, ◌<◌, List, [], ◌∷◌, ◌++◌, length, map, refl, sym, subst, ap, IsTrue, arith}
use Rattle.std.specs.Prelude.{drop, filter, nat_lt, Contains, Option, Some, IsSome}
use Rattle.cacao_site.specs.View.{SiteView, LinkView}
use Rattle.cacao_site.specs.declared.parcel.Parcel.{Parcel}
use Rattle.cacao_site.specs.DiskCalls.{KeepsDisk, OnlyFile}
use Rattle.cacao_site.specs.LinkCalls.{Gains}
use Rattle.cacao_site.specs.SayCalls.{SaysOnly}
use Rattle.cacao_site.specs.SiteCalls.{Puts, Reaches, TakesNone, TakesOnly, TakesSome}
use Rattle.cacao_site.specs.Sound.{IsSound}
use Rattle.cacao_site.proofs.Beats.{each-weaken}
use Rattle.run_records.specs.Ranges.{InRange}
use Rattle.run_records.specs.declared.record.Record.{Record}
use Rattle.std.specs.List.{AllByRecursion}
use Rattle.flow_laws.specs.Images.{IsRecords, puts_to, told_list}
use Rattle.flow_laws.specs.Journals.{run_of}
use Rattle.flow_laws.proofs.Basics.{append_not_empty}
use Rattle.flow_laws.proofs.Calls.{same_entries}
use Rattle.flow_laws.proofs.OneList.{none_of_empty, records_of_layout, stands_empty}
use Rattle.flow_engine_history.specs.HistoryCalls.{Offers}
use Rattle.flow_engine_history.specs.HistoryView.{HistoryView}
use Rattle.flow_engine_history.specs.Histories.{IsHistory, IsLineAt, IsShownBefore}
use Rattle.flow_engine.specs.EngineCalls.{Sends, command_of}
use Rattle.flow_engine.specs.EngineView.{EngineView}
use Rattle.flow_core_rules.specs.State.{Shown}
use Rattle.flow_laws.specs.Journals.{IsShownBefore as ShowsBefore}
use Rattle.flow_world_steps.specs.Sides.{IsUp, IsWhole}
use Rattle.flow_world_steps.proofs.Records.{has_records}
use Rattle.flow_world_steps.proofs.Sites.{some_gained, some_same}
use Rattle.oc2_wire_laws.specs.Ends.{IsOfReplies}
use Rattle.oc2_wire_laws.specs.Since.{EngineKeepsSince, taken_before, takes_of}
use Rattle.oc2_wire_steps.specs.Kept.{IsUnusedYet}
use Rattle.oc2_wire_laws.proofs.Taken.{gained_list, is_taken, longer, still_taken}
use Rattle.oc2_wire_laws.proofs.Since.{since_command, since_line, since_quiet, since_record}
use Rattle.oc2_wire_steps.proofs.Records.{is_run_more, open_send}

-- what a session keeps of its site
pub record KeptTo (start : SiteView) (run : ℕ) (site : SiteView) : Type 0 where
  pub kept : EngineKeepsSince start run site
  pub unused : IsUnusedYet site run
  pub more : takes_of start ≤ takes_of site

-- the parcels that were taken in the session, each with its beat
abbrev pub taken_since : SiteView → SiteView → List (ℕ × Parcel)
taken_since start site = drop (takes_of start) (told_list site.link.taken)

-- ---- where none was taken

module _ (start old new : SiteView) (same : new.link.taken ≡ old.link.taken) where
  all_same : (e : ℕ × Parcel) → Contains (taken_since start old) e → Contains (taken_since start new) e
  all_same e has = subst (λ (o : Option (List (ℕ × Parcel))). Contains (drop (takes_of start) (told_list o)) e) (sym same) has

  more_same : takes_of start ≤ takes_of old → takes_of start ≤ takes_of new
  more_same le = subst (λ (o : Option (List (ℕ × Parcel))). takes_of start ≤ length (told_list o)) (sym same) le

-- ---- the number

-- where the disk stays, and the puts
unused_quiet : (run : ℕ) (old new : SiteView) → IsSound old → KeepsDisk old.disk new.disk → new.link.puts ≡ old.link.puts → IsUnusedYet old run → IsUnusedYet new run
unused_quiet run old new sound keeps puts unused image left empty at parcel has =
    unused image (subst IsTrue ((keeps.stays 0).images new.disk.beat image keeps.goes_on.later (omega arith)) left) empty at parcel
    (subst (λ (l : List (ℕ × Parcel)). Contains l (at, parcel)) (same_entries old.disk.beat new.disk.beat old.link.puts new.link.puts puts keeps.goes_on.later sound.puts.past) has)

-- ---- calls that leave disk, puts and lines

pub quiet : (start : SiteView) (run : ℕ) (old new : SiteView) → IsSound old → KeepsDisk old.disk new.disk → new.link.puts ≡ old.link.puts → new.link.said ≡ old.link.said
    → new.link.taken ≡ old.link.taken → KeptTo start run old → KeptTo start run new
quiet start run old new sound keeps puts said taken kept = record {
  kept = since_quiet start run old new kept.kept sound (some_same old.link.puts new.link.puts puts kept.kept.puts) (some_same old.link.taken new.link.taken taken kept.kept.taken)
      (all_same start old new taken) keeps puts said;
  unused = unused_quiet run old new sound keeps puts kept.unused;
  more = more_same start old new taken kept.more;
}

pub reaches_quiet : (start : SiteView) (run : ℕ) (old new : SiteView) (moment answer : ℕ) → IsSound old → Reaches moment answer old new → KeptTo start run old → KeptTo start run new
reaches_quiet start run old new moment answer sound reaches = quiet start run old new sound reaches.disk.disk reaches.puts reaches.said reaches.taken

pub none_quiet : (start : SiteView) (run : ℕ) (old new : SiteView) → IsSound old → TakesOnly old new → TakesNone old new → KeptTo start run old → KeptTo start run new
none_quiet start run old new sound only none = quiet start run old new sound only.disk.disk only.puts only.said none.taken

pub failed_quiet : (start : SiteView) (run : ℕ) (old new : SiteView) → IsSound old → TakesOnly old new → new.link ≡ old.link → KeptTo start run old → KeptTo start run new
failed_quiet start run old new sound only same = quiet start run old new sound only.disk.disk only.puts only.said (ap (λ (l : LinkView). l.taken) same)

-- a parcel was taken, at this beat
pub takes_quiet : (start : SiteView) (run : ℕ) (old new : SiteView) (parcel : Parcel) → IsSound old → TakesOnly old new → TakesSome parcel old new → KeptTo start run old
    → KeptTo start run new × Contains (taken_since start new) (new.disk.beat, parcel)
takes_quiet start run old new parcel sound only some kept =
    let x : ℕ × Parcel = (new.disk.beat, parcel) in
    let is = gained_list old.link.taken new.link.taken x kept.kept.taken some.taken in (
      record {
        kept = since_quiet start run old new kept.kept sound (some_same old.link.puts new.link.puts only.puts kept.kept.puts)
            (some_gained old.link.taken new.link.taken x some.taken kept.kept.taken)
            (still_taken (takes_of start) (told_list old.link.taken) (told_list new.link.taken) x kept.more is) only.disk.disk only.puts only.said;
        unused = unused_quiet run old new sound only.disk.disk only.puts kept.unused;
        more = subst (λ (l : List (ℕ × Parcel)). takes_of start ≤ length l) (sym is) (longer (takes_of start) (told_list old.link.taken) x kept.more);
      },
      is_taken (takes_of start) (told_list old.link.taken) (told_list new.link.taken) x kept.more is,
    )

-- ---- appends

all_more : {A : Type 0} (P : A → Type 0) (xs : List A) (x : A) → AllByRecursion P xs → P x → AllByRecursion P (xs ++ x ∷ [])
all_more P [] x all is = (is, tt)
all_more P (y ∷ xs) x all is = (all.0, all_more P xs x all.1 is)

-- the parcels of a list that were taken before a beat
abbrev pub before_of : SiteView → Option (List (ℕ × Parcel)) → ℕ → List Parcel
before_of start taken beat = map (λ (e : ℕ × Parcel). e.1) (filter (λ e. nat_lt e.0 beat) (drop (takes_of start) (told_list taken)))

-- a record may have been appended
pub offers_kept : (start : SiteView) (run : ℕ) (v : EngineView) (IsNext : Record → Type 0) (old new : SiteView) → IsSound old → IsWhole v old → v.history.seen.run ≡ run
    → (offers : Offers v.history IsNext old new) → (v.history.records ≡ [] → run_of (offers.comes.next ∷ []) ≡ Some run)
    → ((beat : ℕ) → old.disk.beat < beat → IsOfReplies (taken_before (takes_of start) old beat) (v.history.records ++ offers.comes.next ∷ []) offers.comes.next)
    → KeptTo start run old → KeptTo start run new
offers_kept start run v IsNext old new sound whole of_run offers first reply kept =
    let records = v.history.records in
    let next = offers.comes.next in
    let ranges = whole.engine.history.ranges in
    let only : OnlyFile 0 old new (λ image. IsRecords image records ⊎ IsRecords image (records ++ next ∷ [])) = record {
      each = each-weaken offers.file.each (λ told image is. elim is [
        | inl before ↦ inl (records_of_layout image records ranges before)
        | inr after ↦ inr (records_of_layout image (records ++ next ∷ []) (all_more InRange records next ranges offers.in_range) after)
      ]);
      others = offers.file.others;
      rest = offers.file.rest;
    } in
    let some = sound.images 0 old.disk.beat kept.kept.told (omega arith) in
    let before = has_records v old whole kept.kept.told in
    let taken = ap (λ (l : LinkView). l.taken) only.rest.link in
    let puts = ap (λ (l : LinkView). l.puts) only.rest.link in
    let none : records ≡ [] → (at : ℕ) (parcel : Parcel) → Contains (puts_to old old.disk.beat) (at, parcel) → parcel.run ≢ run =
    λ empty. kept.unused some.0 some.1 (stands_empty some.0 (subst (λ (l : List Record). IsRecords some.0 l) empty (before some.0 some.1))) in
    record {
      kept = since_record start run old new kept.kept sound (some_same old.link.puts new.link.puts puts kept.kept.puts) (some_same old.link.taken new.link.taken taken kept.kept.taken)
          (all_same start old new taken) records next only (record { image = some.0; left = some.1 }) before (is_run_more v.history IsNext whole.engine.history offers.comes) first none
          (λ beat late. subst (λ (o : Option (List (ℕ × Parcel))). IsOfReplies (before_of start o beat) (records ++ next ∷ []) next) (sym taken) (reply beat late));
      unused = λ image left stands at parcel has.
          let had = subst (λ (l : List (ℕ × Parcel)). Contains l (at, parcel))
          (same_entries old.disk.beat new.disk.beat old.link.puts new.link.puts puts only.each.goes_on.later sound.puts.past) has in
          elim (only.each.each kept.kept.told new.disk.beat image only.each.goes_on.later (omega arith) left) [
            | inl is ↦ none (none_of_empty image records stands is) at parcel had
            | inr is ↦ absurd (append_not_empty records next (none_of_empty image (records ++ next ∷ []) stands is))
          ];
      more = more_same start old new taken kept.more;
    }

-- ---- commands

put_told : (old new : SiteView) (parcel : Parcel) → Puts parcel old new → IsSome old.link.puts → IsSome new.link.puts
put_told old new parcel puts some = elim puts.puts [
  | inl gained ↦ some_gained old.link.puts new.link.puts _ gained some
  | inr lost ↦ some_same old.link.puts new.link.puts lost.0 some
]

pub command_kept : (start : SiteView) (run : ℕ) (v w : EngineView) (issue moment : ℕ) (old new : SiteView) → IsSound old → IsUp v old → Sends v w issue moment old new → KeptTo start run old
    → KeptTo start run new
command_kept start run v w issue moment old new sound up sends kept =
    let parcel = command_of v.history issue sends.it in
    let sent = open_send v old issue sends.it up sends.is_open in
    let before = has_records v old up.has_file kept.kept.told in
    record {
      kept = since_command start run old new kept.kept sound (put_told old new parcel sends.put kept.kept.puts)
          (some_same old.link.taken new.link.taken sends.put.taken kept.kept.taken) (all_same start old new sends.put.taken) parcel sends.put refl
          (λ image left. record { records = v.history.records; are = before image left; so = sent });
      unused = λ image left stands at it has.
          let was = subst IsTrue ((sends.put.disk.disk.stays 0).images new.disk.beat image sends.put.disk.disk.goes_on.later (omega arith)) left in
          absurd (up.begun (none_of_empty image v.history.records stands (before image was)));
      more = more_same start old new sends.put.taken kept.more;
    }

-- ---- lines

shows_before : (h : HistoryView) (records : List Record) (before : Shown) → IsHistory h → IsShownBefore h.seen.given h.seen.run records before → ShowsBefore records before
shows_before h [] before history shows = tt
shows_before h (first ∷ others) before history shows = record {
  given = h.seen.given;
  run = h.seen.run;
  state = shows.state;
  accepted = history.accepted;
  leads = shows.leads;
  is = shows.is;
}

pub line_kept : (start : SiteView) (run : ℕ) (v : EngineView) (n : ℕ) (bytes : List ℕ) (old new : SiteView) → IsSound old → IsWhole v old → IsLineAt v.history n bytes → SaysOnly old new
    → Gains old.link.said (new.disk.beat, bytes) new.link.said → KeptTo start run old → KeptTo start run new
line_kept start run v n bytes old new sound whole line says gained kept = record {
  kept = since_line start run old new kept.kept sound (some_same old.link.puts new.link.puts says.puts kept.kept.puts)
      (some_same old.link.taken new.link.taken says.taken kept.kept.taken) (all_same start old new says.taken) bytes says.disk says.puts gained
      (λ image left. record {
        records = v.history.records;
        are = has_records v old whole kept.kept.told image left;
        so = record {
          n = n;
          it = line.it;
          before = line.before;
          stands = line.there;
          shows = shows_before v.history _ line.before whole.engine.history line.shows;
          is = line.is;
        };
      });
  unused = unused_quiet run old new sound says.disk says.puts kept.unused;
  more = more_same start old new says.taken kept.more;
}
