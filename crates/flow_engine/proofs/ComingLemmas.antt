-- Records that may come next, and are in range.
use Rattle.std.proofs.Common.{◌≡◌, ◌≢◌, ℕ, zero, suc, ◌+◌, ◌^◌, ◌<◌, ◌≤◌, ◌==◌, ◌&&◌, ◌||◌, Bool, true, false, cond, not, List, [], ◌∷◌, ◌++◌, length, Option, Some, None, is_some, refl, sym, ap, subst, ◌∙◌, arith, length-append}
use Rattle.std.specs.Prelude.{All, IsSome, count_by, nat_eq, nat_le, nat_lt, is_none, map, option_and_then, option_map, slice_get}
use Rattle.std.specs.Cmp.Lexicographic.{pointwise, lists_equiv, nat_list_eq_equiv}
use Rattle.std.specs.List.{AllByRecursion, list_any}
use Rattle.std.specs.Str.{bytes_eq, is_utf8}
use Rattle.std.proofs.lemmas.Bool.{and_from}
use Rattle.std.proofs.lemmas.List.{length-map}
use Rattle.std.proofs.lemmas.Map.Views.{Contains-from_lookup}
use Rattle.std.proofs.lemmas.Option.{slice_get_within}
use Rattle.std.proofs.lemmas.Slice.Eq.{bytes_eq-Decides}
use Rattle.std.proofs.lemmas.Str.{is_utf8-from_IsUtf8}
use Rattle.oc2_msg.specs.Ranges.{AnswerInRange, is_status}
use Rattle.oc2_msg.specs.declared.answers.Answer.{Answer}
use Rattle.run_journal.specs.Layout.{entries, front, header, length_field}
use Rattle.run_records.specs.Layout.{layout}
use Rattle.run_records.specs.declared.record.Record.{Record}
use Rattle.run_records.specs.declared.record.Record.TheVariants as entry
use Rattle.run_records.specs.Ranges.{IsShort, last_moment, most_text}
use Rattle.flow_core_rules.specs.declared.issues.Issue.{Issue}
use Rattle.flow_core_rules.specs.declared.moves.Move.{Move}
use Rattle.flow_core_rules.specs.declared.moves.Move.TheVariants as move
use Rattle.flow_core_rules.specs.Changes.{Issuing, change, is_answer, is_final, is_in_time, is_waiting, next_command, next_question, outcome, upgrade}
use Rattle.flow_core_rules.specs.Edits.{Edit}
use Rattle.flow_core_rules.specs.Edits.Edit.{opens, writes, makes, issues, upgrades}
use Rattle.flow_core_rules.specs.Givens.{Given}
use Rattle.flow_core_rules.specs.Laws.{EnabledAreInRange, HasFitFields, HasRecord, MovesAreEnabled, RunsAreSane, WaitingCanEnd}
use Rattle.flow_core_rules.specs.Moves.{deadline_of, enabled_move, record_of}
use Rattle.flow_core_rules.specs.Runs.{begin_of, first_edits, first_task}
use Rattle.flow_core_rules.specs.Sane.{CanEnd, IsSane}
use Rattle.flow_core_rules.specs.State.{Shown}
use Rattle.flow_core_rules.proofs.ShapeLemmas.{Issued, Sent, change_shape}
use Rattle.flow_engine_history.specs.Flows.{HasSizes, IsReached, IsStateOf}
use Rattle.flow_engine_history.specs.Setups.{IsReadable, IsSetup}
use Rattle.flow_engine_history.specs.Views.{AsksText, View, begins, blank_shown, is_long_command, most_tasks, is_makes, passed, taken, taken_by}
use Rattle.flow_engine_history.specs.LimitKind.{LimitKind}
use Rattle.flow_engine_history.specs.LimitKind.TheVariants as limit
use Rattle.flow_engine_history.proofs.FlowLemmas.{reached_state}
use Rattle.flow_engine_history.specs.HistoryCalls.{MayMove}
use Rattle.flow_engine_history.specs.HistoryView.{HistoryView, entries_of, flow_of}
use Rattle.flow_engine_history.specs.Histories.{IsHistory}
use Rattle.flow_engine_answers.specs.Answers.{IsOperatorAnswer}
use Rattle.flow_engine_answers.specs.declared.answers.OperatorAnswer.{OperatorAnswer}
use Rattle.flow_engine.specs.EngineCalls.{IsComing, IsStanding, IsWaiting}
use Rattle.flow_engine.specs.OpenIssues.{ArePut, IsPut, OpenIssues, puts_of}

inner : {A : Type 0} (a b : A) → Some a ≡ Some b → a ≡ b
inner a b h = cc

none_some : {A : Type 0} (x : A) → None ≡ Some x → ⊥
none_some x h = cc

clash : (b : Bool) → b ≡ true → b ≡ false → ⊥
clash true x y = cc
clash false x y = cc

some_known : {A : Type 0} (o : Option A) → is_some o ≡ true → (x : A) × (o ≡ Some x)
some_known None e = absurd (clash false e refl)
some_known (Some x) e = (x, refl)

not_zero : (n : ℕ) → (suc n == 0) ≡ false
not_zero n = grind arith

-- ---- what holds of the run

many_entries : (items : List (List ℕ)) → length items ≤ length (entries items)
unfolding entries
many_entries [] = omega arith
many_entries (item ∷ items) =
    let whole : length ((1 ∷ length_field (length item) ++ item) ++ entries items) ≡ length (1 ∷ length_field (length item) ++ item) + length (entries items) = length-append (1 ∷ length_field (length item) ++ item) (entries items) in
    let front_part : length (1 ∷ length_field (length item) ++ item) ≡ length (1 ∷ length_field (length item)) + length item = length-append (1 ∷ length_field (length item)) item in
    omega (arith, whole, front_part, many_entries items)

many_in_front : (items : List (List ℕ)) → length items ≤ length (front items)
unfolding front
many_in_front items = omega (arith, length-append header (entries items), many_entries items)

pub standing : (h : HistoryView) (v : View) → IsHistory h → v.count ≡ length h.records → v.seen ≡ h.seen → IsReached v.count v.seen → HasSizes v.count v.seen → IsSetup v.seen.given → IsStanding h
standing h v is count seen reached sizes setup =
    let many : length (entries_of h.records) ≡ length h.records = length-map h.records layout in
    record {
      reached = subst (λ n. IsReached n h.seen) count (subst (IsReached v.count) seen reached);
      sizes = subst (λ n. HasSizes n h.seen) count (subst (HasSizes v.count) seen sizes);
      setup = subst (λ (s : Shown). IsSetup s.given) seen setup;
      few = omega (arith, is.fits, many_in_front (entries_of h.records), many);
    }

-- ---- where a run has begun

-- a record of a run that has begun is taken where it may come next
taken_is : (n : ℕ) (v : View) (r : Record) → v.count ≡ n → n ≢ 0 → taken v r ≡ change v.seen r
taken_is zero v r c apart = absurd (apart refl)
taken_is (suc n) v r c apart = ap (λ b. cond (not b) (change v.seen r) (begins v.seen r)) (ap (λ k. k == 0) c ∙ not_zero n)

-- what comes first is a Begin
taken_first : (n : ℕ) (v : View) (r : Record) → v.count ≡ n → n ≡ 0 → taken v r ≡ begins v.seen r
taken_first n v r c none = ap (λ k. cond (not (k == 0)) (change v.seen r) (begins v.seen r)) (c ∙ none)

pub sane : RunsAreSane → (h : HistoryView) → IsStanding h → length h.records ≢ 0 → IsSane h.seen
sane law h is begun =
    let s : IsStateOf (length h.records) h.seen = reached_state (length h.records) h.seen begun is.reached in
    subst IsSane s.shown_is (law h.seen.given h.seen.run s.records s.state (is.setup).runnable s.leads)

coming : EnabledAreInRange → (h : HistoryView) (r : Record) → IsStanding h → length h.records ≢ 0 → IsSome (change h.seen r) → HasFitFields r → IsComing h r
coming law h r is begun some fit =
    let few : length h.seen.lists.issues < 2 ^ 32 = omega (arith, (is.sizes).issues, is.few) in
    record {
      comes = subst IsSome (sym (taken_is (length h.records) (flow_of h) r refl begun)) some;
      in_range = law h.seen r (is.sizes).tasks few ((is.setup).runnable).filters some fit;
    }

-- an issue is there only once the run has begun
has_begun_with : (h : HistoryView) (n : ℕ) (issue : Issue) → IsStanding h → slice_get h.seen.lists.issues n ≡ Some issue → length h.records ≢ 0
has_begun_with h n issue is there none = absurd (omega (arith, slice_get_within h.seen.lists.issues n issue there, (is.sizes).issues, none))

other_than_zero : (n : ℕ) → n ≢ 0 → (n == 0) ≡ false
other_than_zero n h = grind arith

-- ---- Reply

final_status : (n : ℕ) → is_status n ≡ true → n ≢ 102 → is_final n ≡ true
final_status n known other = grind arith

all_true : (a b c : Bool) → a ≡ true → b ≡ true → c ≡ true → (a && b && c) ≡ true
all_true true true true p q r = refl
all_true false b c p q r = absurd (clash false p refl)
all_true true false c p q r = absurd (clash false q refl)
all_true true true false p q r = absurd (clash false r refl)

le_true : (a b : ℕ) → a ≤ b → nat_le a b ≡ true
le_true a b h = grind arith

pub reply_comes : RunsAreSane → WaitingCanEnd → EnabledAreInRange → (h : HistoryView) (issue moment : ℕ) (it : Issue) (read : Answer) → IsStanding h → IsWaiting h.seen issue it
    → is_in_time h.seen moment ≡ true → read.status ≢ 102 → AnswerInRange read → IsComing h (entry.Reply issue moment read.status read.rule read.text)
reply_comes runs ends ranges h issue moment it read is waiting timely final fits =
    let begun : length h.records ≢ 0 = has_begun_with h issue it is waiting.there in
    let can : CanEnd h.seen issue it = ends h.seen issue it (sane runs h is begun) waiting.there waiting.waits in
    let answers : is_answer read.status read.text ≡ true =
    all_true (is_final read.status) (is_utf8 read.text) (nat_le (length read.text) 4_096) (final_status read.status fits.status_known final) (is_utf8-from_IsUtf8 read.text fits.text_utf8) (le_true (length read.text) 4_096 fits.text_fits) in
    coming ranges h (entry.Reply issue moment read.status read.rule read.text) is begun (can.answered moment read.status read.rule read.text timely answers (other_than_zero it.agent waiting.of_filter)) fits.rule_fits

-- ---- Expire

number_is : (a b : ℕ) → nat_eq a b ≡ true → a ≡ b
number_is a b h = grind arith

pub expire_comes : RunsAreSane → WaitingCanEnd → EnabledAreInRange → (h : HistoryView) (put_issues : OpenIssues) (issue moment : ℕ) → IsStanding h → ArePut h.seen put_issues → IsSome (puts_of put_issues issue)
    → ((it : Issue) → slice_get h.seen.lists.issues issue ≡ Some it → deadline_of h.seen it ≤ moment) → is_in_time h.seen moment ≡ true → IsComing h (entry.Expire issue moment)
expire_comes runs ends ranges h put_issues issue moment is are some due timely =
    let puts = some_known (puts_of put_issues issue) some in
    let found = Contains-from_lookup number_is issue puts.0 put_issues puts.1 in
    let put : IsPut h.seen (issue, puts.0) = subst (IsPut h.seen) found.2 (are.each found.0 (issue, puts.0) found.1) in
    let begun : length h.records ≢ 0 = has_begun_with h issue put.issue is put.there in
    let can : CanEnd h.seen issue put.issue = ends h.seen issue put.issue (sane runs h is begun) put.there put.waits in
    coming ranges h (entry.Expire issue moment) is begun (can.expires moment timely (due put.issue put.there) (other_than_zero put.issue.agent put.of_filter)) tt

-- ---- Upgrade

not_empty : (records : List Record) → records ≢ [] → length records ≢ 0
not_empty [] h none = h refl
not_empty (r ∷ records) h none = absurd (omega arith)

upgrade_is : (s : Shown) → outcome s.lists ≡ None → s.lists.is_upgraded ≡ false → upgrade s.lists 2 ≡ Some (upgrades ∷ [])
upgrade_is s goes_on earlier = by (outcome s.lists) s.lists.is_upgraded goes_on earlier
  where
    some_none : (b : Bool) → Some b ≡ None → ⊥
    some_none b h = cc

    by : (o : Option Bool) (b : Bool) → o ≡ None → b ≡ false → cond ((2 == 2) && is_none o && not b) (Some (upgrades ∷ [])) None ≡ Some (upgrades ∷ [])
    by None false p q = refl
    by None true p q = absurd (clash true refl q)
    by (Some well) b p q = absurd (some_none well p)

change_timely : (s : Shown) (now : ℕ) (edits : Option (List Edit)) → is_in_time s now ≡ true → IsSome edits → IsSome (cond (is_in_time s now) edits None)
change_timely s now edits timely some = subst (λ b. IsSome (cond b edits None)) (sym timely) some

pub upgrade_comes : EnabledAreInRange → (h : HistoryView) (moment : ℕ) → IsStanding h → h.records ≢ [] → outcome h.seen.lists ≡ None → h.seen.lists.is_upgraded ≡ false
    → is_in_time h.seen moment ≡ true → IsComing h (entry.Upgrade 2 moment)
upgrade_comes ranges h moment is begun goes_on earlier timely =
    coming ranges h (entry.Upgrade 2 moment) is (not_empty h.records begun)
    (change_timely h.seen moment (upgrade h.seen.lists 2) timely (subst IsSome (sym (upgrade_is h.seen goes_on earlier)) refl)) tt

-- ---- Told

pub told_comes : EnabledAreInRange → (h : HistoryView) (issue moment status : ℕ) (text : List ℕ) → IsStanding h → IsSome (taken (flow_of h) (entry.Told issue moment status text))
    → IsComing h (entry.Told issue moment status text)
told_comes ranges h issue moment status text is some = by (length h.records) refl
  where
    by : (n : ℕ) → length h.records ≡ n → IsComing h (entry.Told issue moment status text)
    by zero e = absurd (clash false (subst IsSome (taken_first (length h.records) (flow_of h) (entry.Told issue moment status text) refl e) some) refl)
    by (suc n) e =
        let begun : length h.records ≢ 0 = λ none. absurd (omega (arith, e, none)) in
        coming ranges h (entry.Told issue moment status text) is begun (subst IsSome (taken_is (length h.records) (flow_of h) (entry.Told issue moment status text) refl begun) some) tt

-- an operator's answer comes next for an issue that waits, once the run is upgraded
pub answer_comes : RunsAreSane → WaitingCanEnd → (h : HistoryView) (issue moment : ℕ) (it : Issue) (told : OperatorAnswer) → IsStanding h → slice_get h.seen.lists.issues issue ≡ Some it
    → is_waiting it.phase ≡ true → h.seen.lists.is_upgraded ≡ true → is_in_time h.seen moment ≡ true → IsOperatorAnswer told
    → IsSome (taken (flow_of h) (entry.Told issue moment told.status told.text))
answer_comes runs ends h issue moment it told is there waits upgraded timely good =
    let begun : length h.records ≢ 0 = has_begun_with h issue it is there in
    let can : CanEnd h.seen issue it = ends h.seen issue it (sane runs h is begun) there waits in
    let answers : is_answer told.status told.text ≡ true =
    all_true (is_final told.status) (is_utf8 told.text) (nat_le (length told.text) 4_096) good.final (is_utf8-from_IsUtf8 told.text good.is_text) (le_true (length told.text) 4_096 good.short) in
    subst IsSome (sym (taken_is (length h.records) (flow_of h) (entry.Told issue moment told.status told.text) refl begun))
    (can.told moment told.status told.text timely answers upgraded)

-- ---- moments

-- a record is in time from the moment of the last one on, up to the last moment
pub in_time : (s : Shown) (moment : ℕ) → s.moment ≤ moment → moment ≤ last_moment → is_in_time s moment ≡ true
in_time s moment early late = and_from (nat_le s.moment moment) (nat_le moment last_moment) (le_true s.moment moment early) (le_true moment last_moment late)

-- ---- Begin

same_number : (n : ℕ) → (n == n) ≡ true
same_number n = grind arith

same_bytes : (bytes : List ℕ) → bytes_eq bytes bytes ≡ true
same_bytes bytes = (bytes_eq-Decides bytes bytes).1 refl

four_true : (a b c d : Bool) (e : Option (List Edit)) → a ≡ true → b ≡ true → c ≡ true → d ≡ true → cond (a && b && c && d) e None ≡ e
four_true true true true true e p q r s = refl
four_true false b c d e p q r s = absurd (clash false p refl)
four_true true false c d e p q r s = absurd (clash false q refl)
four_true true true false d e p q r s = absurd (clash false r refl)
four_true true true true false e p q r s = absurd (clash false s refl)

mapped_some : {A B : Type 0} (o : Option A) (f : A → B) → IsSome o → IsSome (option_map f o)
mapped_some None f h = absurd (clash false h refl)
mapped_some (Some x) f h = refl

first_some : (given : Given) (now : ℕ) → IsSome (slice_get given.books 0) → IsSome (first_edits given now)
first_some given now some =
    mapped_some (slice_get given.books 0)
    (λ book. opens None book.variables ∷ (map (λ bound. writes 0 bound.0 bound.1) given.variables ++ makes (first_task given now book) ∷ [])) some

short_each : (texts : List (List ℕ)) → All IsReadable texts → AllByRecursion IsShort texts
short_each [] h = tt
short_each (text ∷ texts) h = (h 0 text (omega arith), short_each texts (λ k d lt. h (suc k) d (omega arith)))

some_book : {A : Type 0} (books : List A) → IsSome (slice_get books 0) → 1 ≤ length books
some_book [] h = absurd (clash false h refl)
some_book (book ∷ books) h = omega arith

pub begin_comes : (h : HistoryView) (moment : ℕ) → IsStanding h → h.records ≡ [] → moment ≤ last_moment → h.seen.run < 2 ^ 64
    → IsComing h (begin_of h.seen.given h.seen.run moment)
begin_comes h moment is empty timely fits =
    let given : Given = h.seen.given in
    let begin : Record = begin_of given h.seen.run moment in
    let taken_now : taken (flow_of h) begin ≡ first_edits given moment =
    taken_first (length h.records) (flow_of h) begin refl (ap (λ (l : List Record). length l) empty)
    ∙ four_true (nat_le moment last_moment) (h.seen.run == h.seen.run) (pointwise (pointwise nat_eq) given.texts given.texts) (bytes_eq given.bind given.bind) (first_edits given moment)
    (le_true moment last_moment timely) (same_number h.seen.run) ((lists_equiv nat_list_eq_equiv).refl given.texts) (same_bytes given.bind) in
    record {
      comes = subst IsSome (sym taken_now) (first_some given moment ((is.setup).runnable).first);
      in_range = record {
        run_fits = fits;
        moment_fits = omega (arith, timely);
        some_book = omega (arith, (is.setup).texts, some_book given.books ((is.setup).runnable).first);
        few_books = omega (arith, (is.setup).texts, (is.setup).few);
        short_books = short_each given.texts (is.setup).readable;
        short_bind = (is.setup).bind;
      };
    }

pub begin_made : (h : HistoryView) (v : View) (next : Record) (moment run : ℕ) → v.seen ≡ h.seen → next ≡ begin_of v.seen.given v.seen.run moment → run ≡ v.seen.run → run < 2 ^ 64
    → IsStanding h → h.records ≡ [] → moment ≤ last_moment → IsComing h next
begin_made h v next moment run seen next_is run_is fits is empty timely =
    let here : next ≡ begin_of h.seen.given h.seen.run moment = next_is ∙ ap (λ (s : Shown). begin_of s.given s.run moment) seen in
    let small : h.seen.run < 2 ^ 64 = subst (λ n. n < 2 ^ 64) (run_is ∙ ap (λ (s : Shown). s.run) seen) fits in
    subst (IsComing h) (sym here) (begin_comes h moment is empty timely small)

-- ---- moves

-- a move is enabled only once the run has begun
begun_with_move : (h : HistoryView) (moment : ℕ) (m : Move) → IsStanding h → enabled_move h.seen moment ≡ Some m → length h.records ≢ 0
begun_with_move h moment m is enabled none =
    let blank : h.seen ≡ blank_shown h.seen.given h.seen.run = subst (λ n. IsReached n h.seen) none is.reached in
    absurd (idle (is_in_time (blank_shown h.seen.given h.seen.run) moment) (subst (λ (s : Shown). enabled_move s moment ≡ Some m) blank enabled))
  where
    idle : (b : Bool) → cond b None None ≡ Some m → ⊥
    idle true e = none_some m e
    idle false e = none_some m e

no_long : (s : Shown) (edits : List Edit) → passed s edits ≡ None → list_any is_long_command edits ≡ false
no_long s edits h = by (nat_lt most_tasks (length s.lists.tasks + count_by is_makes edits)) (list_any is_long_command edits) h
  where
    some_none : (what : LimitKind) → Some what ≡ None → ⊥
    some_none what e = cc

    by : (a b : Bool) → cond a (Some limit.Tasks) (cond b (Some limit.Command) None) ≡ None → b ≡ false
    by true b e = absurd (some_none limit.Tasks e)
    by false true e = absurd (some_none limit.Command e)
    by false false e = refl

short_first : (issue : Issue) (rest edits : List Edit) → edits ≡ issues issue ∷ rest → list_any is_long_command edits ≡ false → length issue.bytes ≤ most_text
short_first issue rest edits are none =
    first (nat_lt most_text (length issue.bytes)) (list_any is_long_command rest) refl (subst (λ (l : List Edit). list_any is_long_command l ≡ false) are none)
  where
    not_less : (a b : ℕ) → nat_lt a b ≡ false → b ≤ a
    not_less a b e = grind arith

    first : (a b : Bool) → nat_lt most_text (length issue.bytes) ≡ a → (a || b) ≡ false → length issue.bytes ≤ most_text
    first true b e h = absurd (clash true refl h)
    first false b e h = not_less most_text (length issue.bytes) e

-- a move has no Reply
module _ (s : Shown) (now issue moment status rule : ℕ) (text : List ℕ) where
  no_send : (t : ℕ) (o : Option Issuing) → option_map (λ (made : Issuing). entry.Send t (length s.lists.issues) (made.0).agent now (made.0).bytes) o ≡ Some (entry.Reply issue moment status rule text) → ⊥
  no_send t None h = cc
  no_send t (Some made) h = cc

  no_ask : (t : ℕ) (o : Option Issuing) → option_map (λ (made : Issuing). entry.Ask t (length s.lists.issues) now (made.0).bytes) o ≡ Some (entry.Reply issue moment status rule text) → ⊥
  no_ask t None h = cc
  no_ask t (Some made) h = cc

  no_reply : (m : Move) → record_of s now m ≡ Some (entry.Reply issue moment status rule text) → ⊥
  no_reply (move.Walk t) h = cc
  no_reply (move.Send t) h = no_send t (next_command s now t) h
  no_reply (move.Ask t) h = no_ask t (next_question s now t) h
  no_reply move.Upgrade h = cc

-- what passes no limit, and asks by a text, has fit fields
fit_fields : (s : Shown) (r : Record) (edits : List Edit) (m : Move) (moment : ℕ) → record_of s moment m ≡ Some r → change s r ≡ Some edits → AsksText r → list_any is_long_command edits ≡ false → HasFitFields r
fit_fields s (entry.Begin run moment books bind) edits m now of e text none = tt
fit_fields s (entry.Walk task moment) edits m now of e text none = tt
fit_fields s (entry.Send task n agent moment bytes) edits m now of e text none =
    let shape : Sent s task n agent moment bytes edits = change_shape s (entry.Send task n agent moment bytes) edits e in
    short_first _ (shape.issued).rest edits (shape.issued).edits_are none
fit_fields s (entry.Reply issue moment status rule bytes) edits m now of e text none = absurd (no_reply s now issue moment status rule bytes m of)
fit_fields s (entry.Expire issue moment) edits m now of e text none = tt
fit_fields s (entry.Upgrade version moment) edits m now of e text none = tt
fit_fields s (entry.Ask task n moment bytes) edits m now of e text none =
    let shape : Issued s task n 0 moment bytes edits = change_shape s (entry.Ask task n moment bytes) edits e in
    (short_first _ shape.rest edits shape.edits_are none, text)
fit_fields s (entry.Told issue moment status bytes) edits m now of e text none = tt

module _ (law : MovesAreEnabled) (h : HistoryView) (moment : ℕ) (m : Move) (is : IsStanding h) (enabled : enabled_move h.seen moment ≡ Some m) where
  -- what is known of the record of the enabled move
  record IsMade : Type 0 where
    made : Record
    edits : List Edit
    made_is : record_of h.seen moment m ≡ Some made
    changes : change h.seen made ≡ Some edits
    takes : taken_by (flow_of h) moment m ≡ Some edits

  begun : length h.records ≢ 0
  begun = begun_with_move h moment m is enabled

  made_so : IsMade
  made_so =
      let has : HasRecord h.seen moment m = law h.seen moment m enabled in
      let found = some_known (change h.seen has.made) has.is_next in
      record {
        made = has.made;
        edits = found.0;
        made_is = has.made_is;
        changes = found.1;
        takes = ap (option_and_then (taken (flow_of h))) has.made_is ∙ taken_is (length h.records) (flow_of h) has.made refl begun ∙ found.1;
      }

  -- it may come next, and is in range within the limits
  pub may_move : EnabledAreInRange → MayMove (flow_of h) m moment
  may_move ranges =
      let k : IsMade = made_so in
      record {
        comes = subst IsSome (sym k.takes) refl;
        in_range = λ made made_is text none.
            let same : k.made ≡ made = inner k.made made (sym k.made_is ∙ made_is) in
            let changes : change h.seen made ≡ Some k.edits = subst (λ (r : Record). change h.seen r ≡ Some k.edits) same k.changes in
            let passes : passed h.seen k.edits ≡ None = sym (ap (option_and_then (passed h.seen)) k.takes) ∙ none in
            (coming ranges h made is begun (subst IsSome (sym changes) refl) (fit_fields h.seen made k.edits m moment made_is changes text (no_long h.seen k.edits passes))).in_range;
      }
