-- What the opening leaves, and agreement and the told lists at each world of a session.
use Rattle.std.proofs.Common.{◌≡◌, ◌≢◌, ◌⊎◌, inl, inr, ℕ, zero, suc, ◌-◌, ◌≤◌, List, [], ◌∷◌, ◌++◌, length, get_or, Option, Some, None, IsTrue, refl, sym, ap, subst, ◌∙◌, arith}
use Rattle.std.specs.Prelude.{Contains, IfSome, IsSome, slice_get}
use Rattle.std.specs.List.{AllByRecursion}
use Rattle.std.proofs.lemmas.List.{append-nil}
use Rattle.std.proofs.lemmas.Option.{none-some}
use Rattle.cacao_site.specs.DiskCalls.{IsLeft}
use Rattle.cacao_site.specs.Sound.{IsSound}
use Rattle.cacao_site.specs.View.{LinkView, SiteView}
use Rattle.cacao_site.specs.declared.parcel.Parcel.{Parcel}
use Rattle.run_records.specs.Ranges.{ActInRange, InRange}
use Rattle.run_records.specs.declared.act.Act.{Act}
use Rattle.run_records.specs.declared.record.Record.{Record}
use Rattle.flow_core_rules.specs.Givens.{Given}
use Rattle.flow_engine_answers.specs.declared.answers.OperatorAnswer.{OperatorAnswer}
use Rattle.flow_laws.specs.Fresh.{IsFresh}
use Rattle.flow_laws.specs.Good.{IsGood}
use Rattle.flow_laws.specs.Held.{plain}
use Rattle.flow_laws.specs.Images.{IsActs, IsAgent, IsRecords, puts_of, puts_to}
use Rattle.flow_laws.specs.Sessions.{IsRestart, IsStart as IsStartAs, StaysFresh}
use Rattle.flow_laws.proofs.Again.{goes_on_after_a_crash}
use Rattle.flow_laws.proofs.Calls.{same_entries, since_start}
use Rattle.flow_laws.proofs.OneList.{acts_of_layout, records_of_layout}
use Rattle.flow_engine_history.specs.HistoryView.{HoldsRecords}
use Rattle.slpf_actuator.specs.ActuatorView.{ActuatorView, HoldsActs}
use Rattle.flow_world_steps.specs.Agreement.{HasKept}
use Rattle.flow_world_steps.specs.Handled.{IsTakenAct, IsTakenReply}
use Rattle.flow_world_steps.specs.Ready.{FilterStands, HoldsActsWithUnsure}
use Rattle.flow_world_steps.specs.Sides.{HoldsWithUnsure}
use Rattle.flow_world_steps.specs.Steps.{Steps}
use Rattle.flow_world_steps.specs.Unsure.{UnsureByFilter, UnsureByStep}
use Rattle.flow_world_steps.specs.Worlds.{Notes, World, holds, opened}
use Rattle.flow_world_steps.proofs.Agreement.{steps_keep_agreement}
use Rattle.flow_world_steps.proofs.Sites.{some_same}
use Rattle.flow_world_steps.proofs.Unsure.{steps_unsure, steps_unsure_act}
use Rattle.flow_world.specs.Sessions.{IsStart, Went}
use Rattle.flow_world_laws.proofs.Opening.{OnlyOpens, opens_all}
use Rattle.flow_world_laws.proofs.Taken.{none_in}

all_more : {A : Type 0} (P : A → Type 0) (xs : List A) (x : A) → AllByRecursion P xs → P x → AllByRecursion P (xs ++ x ∷ [])
all_more P [] x all is = (is, tt)
all_more P (y ∷ xs) x all is = (all.0, all_more P xs x all.1 is)

one_of : {T : Type 0} (P : T → Type 0) (x y : T) → P x → Contains (x ∷ []) y → P y
one_of P x y is has = by has.0 has.1 has.2
  where
    by : (k : ℕ) → suc k ≤ length (x ∷ []) → get_or (x ∷ []) k y ≡ y → P y
    by zero lt e = subst P e is
    by (suc k) lt e = absurd (omega (arith, lt))

-- the images of a file at the end stand for what an end has, and for what may stand behind it, which is of parcels that were taken
pub record HoldsActsMore (taken : List (ℕ × Parcel)) (agent : ℕ) (acts : List Act) (image : List ℕ) : Type 0 where
  pub more : List Act
  pub are : IsActs image (acts ++ more)
  pub ranges : AllByRecursion ActInRange (acts ++ more)
  pub of_taken : (act : Act) → Contains more act → IsTakenAct taken (agent, act)

pub record HoldsRecordsMore (taken : List (ℕ × Parcel)) (run : ℕ) (records : List Record) (image : List ℕ) : Type 0 where
  pub more : List Record
  pub are : IsRecords image (records ++ more)
  pub of_taken : (r : Record) → Contains more r → IsTakenReply run taken r

module _ (given : Given) (run most : ℕ) (answers : List OperatorAnswer) (old new : SiteView) (sound_old : IsSound old) (start : IsStart old run) (went : Went given run most answers old new) where
  -- ---- where all files are open

  abbrev pub first : SiteView
  first = went.start.site

  only : OnlyOpens old first
  only = opens_all given run old first went.start.engine went.start.filters went.files

  link : first.link ≡ old.link
  link = went.files.others.rest.link ∙ went.files.journal.opens.only.rest.link

  restart : IsRestart old old.disk.beat first
  restart = record {
    images = λ file small. only.among start.told file;
    puts = λ at parcel has. (
      at,
      subst (λ (l : List (ℕ × Parcel)). Contains l (at, parcel))
          (same_entries old.disk.beat first.disk.beat old.link.puts first.link.puts (ap (λ (l : LinkView). l.puts) link) only.on.later sound_old.puts.past) has,
    );
    said = λ bytes said. record {
      at = said.at;
      has = subst (λ (l : List (ℕ × List ℕ)). Contains l (said.at, bytes))
          (same_entries old.disk.beat first.disk.beat old.link.said first.link.said (ap (λ (l : LinkView). l.said) link) only.on.later sound_old.said.past) said.has;
    };
  }

  starts : IsStartAs plain first × StaysFresh old old.disk.beat first
  starts = goes_on_after_a_crash plain old first (puts_of old) old.disk.beat restart start.start.good start.start.held

  pub told_first : IsTrue first.disk.told
  told_first = subst IsTrue (sym only.on.told) start.told

  kept_first : HasKept first went.start
  kept_first = record {
    agreed = since_start plain first told_first starts.0;
    puts = some_same old.link.puts first.link.puts (ap (λ (l : LinkView). l.puts) link) start.puts;
    pending = some_same old.link.pending first.link.pending (ap (λ (l : LinkView). l.pending) link) start.pending;
    in_hand = λ beat parcel h. absurd (let e : opened ≡ holds beat parcel = sym went.begins.phase ∙ h in cc);
  }

  fresh_first : IsFresh first went.start.engine.history.seen.run first.disk.beat
  fresh_first = subst (λ (n : ℕ). IsFresh first n first.disk.beat) (sym went.begins.of_run) (starts.1 run start.fresh)

  pub kept_at : (w : World) → Steps went.start w → HasKept first w
  kept_at w steps = steps_keep_agreement first went.start w fresh_first kept_first steps

  pub told_at : (w : World) → Steps went.start w → IsTrue w.site.disk.told
  told_at w steps = (kept_at w steps).agreed.told

  pub good_at : (w : World) → Steps went.start w → IsGood w.site w.site.disk.beat
  good_at w steps = ((kept_at w steps).agreed.each w.site.disk.beat (kept_at w steps).agreed.later (omega arith)).good

  pub taken_first : old.link.taken ≡ first.link.taken
  taken_first = sym (ap (λ (l : LinkView). l.taken) link)

  -- ---- what the files had at the start

  pub journal_had : IsRecords (old.disk.reads 0) went.start.engine.history.records
  journal_had =
      let journal = went.files.journal in
      let records = went.start.engine.history.records in
      subst (λ (i : List ℕ). IsRecords i records) journal.reads
      (records_of_layout (went.files.middle.disk.reads 0) records journal.whole.engine.history.ranges (journal.stands start.told))

  pub filter_had : (agent : ℕ) → IsAgent agent → (v : ActuatorView) → slice_get went.start.filters (agent - 1) ≡ Some v → IsActs (old.disk.reads agent) v.acts
  filter_had agent is v there =
      let files = went.files in
      let number : suc (agent - 1) ≡ agent = omega (arith, is.0) in
      let open_ = files.others.each (agent - 1) v there in
      let told_middle : IsTrue first.disk.told = told_first in
      let here : HoldsActs v.acts (first.disk.reads agent) = subst (λ (n : ℕ). HoldsActs v.acts (first.disk.reads n)) number (open_.stands told_middle) in
      let same : first.disk.reads agent ≡ old.disk.reads agent =
      files.others.reads agent is.0 is.1 ∙ (files.journal.opens.only.others agent (λ e. absurd (omega (arith, e, is.0)))).reads in
      subst (λ (i : List ℕ). IsActs i v.acts) same (acts_of_layout (first.disk.reads agent) v.acts open_.filter.ready.history.ranges here)

  -- ---- what they have on return

  abbrev pub last : World
  last = went.to

  abbrev pub parcels : List (ℕ × Parcel)
  parcels = went.sums.handles.handled ++ went.sums.handles.at_hand

  unsure_range : (e : ℕ × Act) → last.notes.unsure_act ≡ Some e → ActInRange e.1
  unsure_range e is =
      let by : UnsureByFilter went.start last e = steps_unsure_act went.start last e (ap (λ (n : Notes). n.unsure_act) went.begins.notes) went.steps is in
      subst (λ (x : ℕ × Act). ActInRange x.1) (sym by.is) by.acted.offers.in_range

  unsure_taken : (e : ℕ × Act) → last.notes.unsure_act ≡ Some e → IsTakenAct parcels e
  unsure_taken e is =
      subst (λ (o : Option (ℕ × Act)). IfSome o (IsTakenAct parcels)) is (went.sums.handles.of_unsure_act (ap (λ (n : Notes). n.unsure_act) went.begins.notes))

  acts_by : (agent : ℕ) (v : ActuatorView) (image : List ℕ) → FilterStands last agent v → (o : Option (ℕ × Act)) → last.notes.unsure_act ≡ o → HoldsActsWithUnsure agent v.acts o image
      → HoldsActsMore parcels agent v.acts image
  acts_by agent v image stands o e h = go o e h
    where
      sure : HoldsActs v.acts image → HoldsActsMore parcels agent v.acts image
      sure is = record {
        more = [];
        are = subst (IsActs image) (sym (append-nil v.acts)) (acts_of_layout image v.acts stands.ready.history.ranges is);
        ranges = subst (AllByRecursion ActInRange) (sym (append-nil v.acts)) stands.ready.history.ranges;
        of_taken = λ act has. absurd (none_in act has);
      }

      further : (x : ℕ × Act) → last.notes.unsure_act ≡ Some x → x.0 ≡ agent → HoldsActs (v.acts ++ x.1 ∷ []) image → HoldsActsMore parcels agent v.acts image
      further x is own stands_so =
          let ranges = all_more ActInRange v.acts x.1 stands.ready.history.ranges (unsure_range x is) in
          record {
            more = x.1 ∷ [];
            are = acts_of_layout image (v.acts ++ x.1 ∷ []) ranges stands_so;
            ranges = ranges;
            of_taken = λ act has. one_of (λ (y : Act). IsTakenAct parcels (agent, y)) x.1 act (subst (λ (n : ℕ). IsTakenAct parcels (n, x.1)) own (unsure_taken x is)) has;
          }

      go : (o : Option (ℕ × Act)) → last.notes.unsure_act ≡ o → HoldsActsWithUnsure agent v.acts o image → HoldsActsMore parcels agent v.acts image
      go None e h = sure h
      go (Some x) e (inl h) = sure h
      go (Some x) e (inr h) = further x e h.0 h.1

  pub acts_at : (agent : ℕ) → IsAgent agent → (v : ActuatorView) → slice_get last.filters (agent - 1) ≡ Some v → (image : List ℕ) → IsLeft last.site.disk agent last.site.disk.beat image
      → HoldsActsMore parcels agent v.acts image
  acts_at agent is v there image left =
      let number : suc (agent - 1) ≡ agent = omega (arith, is.0) in
      let stands : FilterStands last agent v = subst (λ (n : ℕ). FilterStands last n v) number (went.sums.filters.each (agent - 1) v there) in
      acts_by agent v image stands last.notes.unsure_act refl (stands.holds (told_at last went.steps) image left)

  unsure_record : (r : Record) → last.notes.unsure ≡ Some r → InRange r
  unsure_record r is =
      let by : UnsureByStep went.start last r = steps_unsure went.start last r (ap (λ (n : Notes). n.unsure) went.begins.notes) went.steps is in
      subst (λ (x : Record). InRange x) by.offers.comes.is by.offers.in_range

  unsure_reply : (r : Record) → last.notes.unsure ≡ Some r → IsTakenReply run parcels r
  unsure_reply r is =
      subst (λ (n : ℕ). IsTakenReply n parcels r) went.begins.of_run
      (subst (λ (o : Option Record). IfSome o (IsTakenReply went.start.engine.history.seen.run parcels)) is (went.sums.handles.of_unsure (ap (λ (n : Notes). n.unsure) went.begins.notes)))

  abbrev pub records : List Record
  records = last.engine.history.records

  records_by : (image : List ℕ) (o : Option Record) → last.notes.unsure ≡ o → HoldsWithUnsure records o image → HoldsRecordsMore parcels run records image
  records_by image o e h = go o e h
    where
      ranges : AllByRecursion InRange records
      ranges = went.sums.journal.engine.history.ranges

      sure : HoldsRecords records image → HoldsRecordsMore parcels run records image
      sure is = record {
        more = [];
        are = subst (IsRecords image) (sym (append-nil records)) (records_of_layout image records ranges is);
        of_taken = λ r has. absurd (none_in r has);
      }

      further : (r : Record) → last.notes.unsure ≡ Some r → HoldsRecords (records ++ r ∷ []) image → HoldsRecordsMore parcels run records image
      further r is stands_so = record {
        more = r ∷ [];
        are = records_of_layout image (records ++ r ∷ []) (all_more InRange records r ranges (unsure_record r is)) stands_so;
        of_taken = λ x has. one_of (IsTakenReply run parcels) r x (unsure_reply r is) has;
      }

      go : (o : Option Record) → last.notes.unsure ≡ o → HoldsWithUnsure records o image → HoldsRecordsMore parcels run records image
      go None e h = sure h
      go (Some r) e (inl h) = sure h
      go (Some r) e (inr h) = further r e h

  pub records_at : (image : List ℕ) → IsLeft last.site.disk 0 last.site.disk.beat image → HoldsRecordsMore parcels run records image
  records_at image left = records_by image last.notes.unsure refl (went.sums.journal.holds (told_at last went.steps) image left)
