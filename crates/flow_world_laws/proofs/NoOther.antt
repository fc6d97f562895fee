-- A session that begins on its own run, or on none, under a fresh number finds no other.
use Rattle.std.proofs.Common.{◌≡◌, ◌⊎◌, inl, inr, ℕ, suc, ◌+◌, ◌-◌, List, [], ◌∷◌, refl, sym, ◌∙◌, subst, ap, IsTrue, arith}
use Rattle.std.specs.Prelude.{Any, Bool, Contains, slice_get}
use Rattle.cacao_site.specs.DiskCalls.{IsLeft}
use Rattle.cacao_site.specs.Sound.{IsSound}
use Rattle.cacao_site.specs.View.{SiteView}
use Rattle.cacao_site.proofs.Beats.{told-goes_on}
use Rattle.run_journal.proofs.LayoutLaws.{one_list}
use Rattle.run_journal.specs.Layout.{Stands}
use Rattle.run_records.specs.Reading.{record_of}
use Rattle.run_records.specs.declared.act.Act.{Act}
use Rattle.run_records.specs.declared.record.Record.{Record}
use Rattle.run_records.specs.declared.record.Record.TheVariants as entry
use Rattle.flow_core_rules.specs.Givens.{Given}
use Rattle.flow_core_rules.proofs.RunLemmas.{some_inner}
use Rattle.flow_laws.specs.Fresh.{IsFresh, IsUnused}
use Rattle.flow_laws.specs.Images.{IsActs, IsRecords}
use Rattle.flow_laws.proofs.OneList.{stands_empty}
use Rattle.flow_world_steps.specs.Openings.{BeginsWith, IsRefusedOpening, RefusesEntries, RefusesImage}
use Rattle.flow_engine_answers.specs.declared.answers.OperatorAnswer.{OperatorAnswer}
use Rattle.flow_world_steps.specs.EngineError.{EngineError}
use Rattle.flow_world_steps.specs.EngineError.TheVariants as engine_error
use Rattle.flow_world_steps.specs.Sides.{IsFilter}
use Rattle.flow_world_steps.specs.Worlds.{Cause, refused, disk_failed, not_said, run_used, past, wants_memory}
use Rattle.flow_world_steps.proofs.FilterCalls.{has_acts}
use Rattle.flow_world_steps.proofs.Records.{has_records}
use Rattle.flow_world.specs.Closes.{refusal_of}
use Rattle.flow_world.specs.Errors.{opening_refusal}
use Rattle.flow_world.specs.Openings.{IsFileCause}
use Rattle.flow_world.specs.Sessions.{Went}
use Rattle.flow_world.specs.WorldError.{WorldError}
use Rattle.flow_world.specs.WorldError.TheVariants as error
use Rattle.flow_world_laws.specs.Complete.{HoldsThisRun, NoneFindsAnother, TellsOfAnother}
use Rattle.flow_world_laws.proofs.Opening.{OnlyOpens, opens_all, opens_refused}
use Rattle.flow_world_laws.proofs.Used.{used_at_once}

-- ---- the bytes of file 0

abbrev run_in : Record → ℕ
run_in (entry.Begin run moment books bind) = run
run_in other = 0

abbrev texts_in : Record → List (List ℕ)
texts_in (entry.Begin run moment books bind) = books
texts_in other = []

abbrev bind_in : Record → List ℕ
bind_in (entry.Begin run moment books bind) = bind
bind_in other = []

first_of : (x y : List ℕ) (xs ys entries : List (List ℕ)) → entries ≡ x ∷ xs → entries ≡ y ∷ ys → x ≡ y
first_of x y xs ys entries e f = cc

same_begin : (entries : List (List ℕ)) (run moment number later : ℕ) (books texts : List (List ℕ)) (bind bound : List ℕ) → BeginsWith entries run moment books bind → BeginsWith entries number later texts bound
    → entry.Begin run moment books bind ≡ entry.Begin number later texts bound
same_begin entries run moment number later books texts bind bound x y =
    some_inner (entry.Begin run moment books bind) (entry.Begin number later texts bound)
    (sym x.reads ∙ ap record_of (first_of x.first y.first x.others y.others entries x.are y.are) ∙ y.reads)

-- the entries are none, or begin this run
abbrev BeginsThisRun : Given → ℕ → List (List ℕ) → Type 0
BeginsThisRun given run entries = (entries ≡ []) ⊎ ((moment : ℕ) × BeginsWith entries run moment given.texts given.bind)

no_begin : (entries : List (List ℕ)) (run moment : ℕ) (books : List (List ℕ)) (bind : List ℕ) → entries ≡ [] → BeginsWith entries run moment books bind → ⊥
no_begin entries run moment books bind none b = not b.first b.others (sym none ∙ b.are)
  where
    not : (first : List ℕ) (others : List (List ℕ)) → [] ≡ first ∷ others → ⊥
    not first others e = cc

entries_of_this : (given : Given) (run : ℕ) (image : List ℕ) (entries : List (List ℕ)) → Stands image entries → HoldsThisRun given run image → BeginsThisRun given run entries
entries_of_this given run image entries stands (inl empty) = inl (one_list image entries [] stands empty)
entries_of_this given run image entries stands (inr (items, holds, moment, b)) =
    inr (moment, subst (λ (l : List (List ℕ)). BeginsWith l run moment given.texts given.bind) (one_list image items entries holds stands) b)

no_other_run : (given : Given) (run held asked : ℕ) (image : List ℕ) → HoldsThisRun given run image → RefusesImage given run image (engine_error.OtherRun held asked) → ⊥
no_other_run given run held asked image holds (inl d) = not d.place d.is
  where
    not : (place : ℕ) → engine_error.OtherRun held asked ≡ engine_error.Damaged place → ⊥
    not place e = cc
no_other_run given run held asked image holds (inr r) = by (entries_of_this given run image r.entries r.stands holds) r.refuses
  where
    by : BeginsThisRun given run r.entries → RefusesEntries given run r.entries (engine_error.OtherRun held asked) → ⊥
    by (inl none) ((moment, books, bind, b), apart, is) = no_begin r.entries held moment books bind none b
    by (inr (now, own)) ((moment, books, bind, b), apart, is) = apart (ap run_in (same_begin r.entries held moment run now books given.texts bind given.bind b own))

no_other_book : (given : Given) (run index : ℕ) (image : List ℕ) → HoldsThisRun given run image → RefusesImage given run image (engine_error.OtherBook index) → ⊥
no_other_book given run index image holds (inl d) = not d.place d.is
  where
    not : (place : ℕ) → engine_error.OtherBook index ≡ engine_error.Damaged place → ⊥
    not place e = cc
no_other_book given run index image holds (inr r) = by (entries_of_this given run image r.entries r.stands holds) r.refuses
  where
    by : BeginsThisRun given run r.entries → RefusesEntries given run r.entries (engine_error.OtherBook index) → ⊥
    by (inl none) (moment, books, bind, b, differs) = no_begin r.entries run moment books bind none b
    by (inr (now, own)) (moment, books, bind, b, inl first) =
        first.differs (ap (λ (texts : List (List ℕ)). slice_get texts index) (ap texts_in (same_begin r.entries run moment run now books given.texts bind given.bind b own)))
    by (inr (now, own)) (moment, books, bind, b, inr (same, apart, at_)) =
        apart (ap bind_in (same_begin r.entries run moment run now books given.texts bind given.bind b own))

-- ---- the opening

journal_of_this : (given : Given) (run : ℕ) (old new : SiteView) (why : EngineError) → IsTrue old.disk.told → HoldsThisRun given run (new.disk.reads 0) → TellsOfAnother (opening_refusal why)
    → IsRefusedOpening given run why old new → ⊥
journal_of_this given run old new (engine_error.OtherRun held asked) told holds tells (apart, same, (durable, told_by)) = no_other_run given run held asked (new.disk.reads 0) holds (told_by told)
journal_of_this given run old new (engine_error.OtherBook index) told holds tells (durable, told_by) = no_other_book given run index (new.disk.reads 0) holds (told_by told)
journal_of_this given run old new (engine_error.Damaged place) told holds tells is = tells
journal_of_this given run old new engine_error.Disk told holds tells is = tells
journal_of_this given run old new (engine_error.Limit what) told holds tells is = tells
journal_of_this given run old new engine_error.Memory told holds tells is = tells
journal_of_this given run old new engine_error.Broken told holds tells is = is

-- ---- a fresh number

of_cause : (error : WorldError) (cause : Cause) → TellsOfAnother error → error ≡ refusal_of cause → (agent : ℕ) × (cause ≡ run_used agent)
of_cause error (run_used agent) tells e = (agent, refl)
of_cause error disk_failed tells e = absurd (subst TellsOfAnother e tells)
of_cause error not_said tells e = absurd (subst TellsOfAnother e tells)
of_cause error (past what) tells e = absurd (subst TellsOfAnother e tells)
of_cause error wants_memory tells e = absurd (subst TellsOfAnother e tells)

-- one of the acts is of the run
record ActOfRun (run : ℕ) (acts : List Act) : Type 0 where
  act : Act
  has : Contains acts act
  of_run : act.run ≡ run

act_of_run : (run : ℕ) (acts : List Act) → Any (λ (act : Act). act.run ≡ run) acts → ActOfRun run acts
act_of_run run acts (k, act, lt, there, of_run) = record { act = act; has = (k, lt, there); of_run = of_run }

not_used : (given : Given) (run most agent : ℕ) (answers : List OperatorAnswer) (old new : SiteView) (went : Went given run most answers old new) (lacks : Bool) → IsTrue old.disk.told
    → IsFresh old run old.disk.beat → IsSound new → went.to.phase ≡ refused (run_used agent) lacks → ⊥
not_used given run most agent answers old new went lacks told fresh sound phase =
    let a = went.start in
    let found = used_at_once a went.to agent lacks went.begins.phase went.steps phase in
    let same : new ≡ a.site = sym went.to_is ∙ found.only.site in
    let here : IsSound a.site = subst IsSound same sound in
    let opens : OnlyOpens old a.site = opens_all given run old a.site a.engine a.filters went.files in
    let told_here : IsTrue a.site.disk.told = told-goes_on opens.on told in
    let journal = a.site.disk.reads 0 in
    let empty : IsRecords journal [] = subst (λ (l : List Record). IsRecords journal l) found.empty (has_records a.engine a.site went.begins.whole told_here journal (here.reads 0 told_here)) in
    let unused : IsUnused old run old.disk.beat = fresh.unused journal (opens.among told 0 journal (here.reads 0 told_here)) (stands_empty journal empty) in
    let low = found.low in
    let number : suc (agent - 1) ≡ agent = omega (arith, low) in
    let v = found.has.v in
    let filter : IsFilter v agent a.site = subst (λ (n : ℕ). IsFilter v n a.site) number (went.begins.filters.each (agent - 1) v found.has.there) in
    let image = a.site.disk.reads agent in
    let left : IsLeft a.site.disk agent a.site.disk.beat image = here.reads agent told_here in
    let acts : IsActs image v.acts = has_acts v agent a.site filter told_here image (subst (λ (n : ℕ). IsLeft a.site.disk n a.site.disk.beat image) (sym filter.of_agent) left) in
    let act = act_of_run a.engine.history.seen.run v.acts found.has.has in
    unused.acts agent image v.acts act.act (low, found.high) (opens.among told agent image left) acts act.has (act.of_run ∙ went.begins.of_run)

no_file : (why : WorldError) → TellsOfAnother why → (agent : ℕ) (mid new : SiteView) → IsFileCause why agent mid new → ⊥
no_file (error.OtherRun held asked) tells agent mid new cause = cause
no_file (error.OtherBook index) tells agent mid new cause = cause
no_file (error.RunUsed number) tells agent mid new cause = cause
no_file error.Disk tells agent mid new cause = tells
no_file (error.Damaged file place) tells agent mid new cause = tells
no_file (error.Limit what) tells agent mid new cause = tells
no_file error.Say tells agent mid new cause = tells
no_file error.Memory tells agent mid new cause = tells

pub none_finds_another : NoneFindsAnother
none_finds_another error given run most answers old new tells told fresh this sound (inl (inl r)) =
    let opens = opens_refused error given run old new (inl r) in
    journal_of_this given run old new r.why told (this (new.disk.reads 0) (opens.among told 0 (new.disk.reads 0) (sound.reads 0 (told-goes_on opens.on told)))) (subst TellsOfAnother r.is tells) r.refused
none_finds_another error given run most answers old new tells told fresh this sound (inl (inr r)) = no_file error tells (r.refuses.agent + 1) r.refuses.middle new r.refuses.refuses.why
none_finds_another error given run most answers old new tells told fresh this sound (inr r) =
    let used = of_cause error r.refuses.cause tells r.refuses.is in
    not_used given run most used.0 answers old new r.went r.refuses.lacks told fresh sound
    (subst (λ (c : Cause). r.went.to.phase ≡ refused c r.refuses.lacks) used.1 r.refuses.phase)
