-- One record more is followed.
use Rattle.std.proofs.Common.{◌≡◌, ◌∙◌, ℕ, suc, ◌+◌, ◌≤◌, List, [], ◌∷◌, ◌++◌, length, take, drop, Option, Some, None, Result, Ok, Err, refl, sym, ap, subst, append_assoc, append-nil}
use Rattle.std.specs.Prelude.{IfOk, MatchOption}
use Rattle.std.specs.List.{AllByRecursion}
use Rattle.std.specs.Option.{option_map_or}
use Rattle.run_records.specs.Ranges.{InRange}
use Rattle.run_records.specs.declared.record.Record.{Record}
use Rattle.flow_core_rules.specs.Changes.{change, moment_of}
use Rattle.flow_core_rules.specs.Edits.{Edit}
use Rattle.flow_core_rules.specs.Givens.{Given}
use Rattle.flow_core_rules.specs.Runs.{shown_after}
use Rattle.flow_core_rules.specs.State.{Shown}
use Rattle.flow_core.specs.Views.{View}
use Rattle.flow_engine_history.specs.HistoryView.{entries_of}
use Rattle.flow_engine_history.specs.Histories.{IsShownAfter, IsSoFar}
use Rattle.flow_engine_history.proofs.HistoryLemmas.{all_push, entries_push, records_back}
use Rattle.flow_engine_history.specs.KeptHistory.{records_of}
use Rattle.flow_engine_history.proofs.ReplayLemmas.{taken_later}
use Rattle.flow_engine_reports.specs.Beginnings.{HasBegun, IsNotBegun}
use Rattle.flow_engine_reports.specs.RunFiles.{IsBegin}
use Rattle.flow_engine_reports.proofs.ReplayLemmas.{taken_more}
use Rattle.cacao_view_log.specs.Telling.{IsEntryOf}
use Rattle.cacao_view_graph.specs.Courses.{behind, behind_all, sends, sent_by, walked_by, walks}
use Rattle.cacao_view_graph.specs.Following.{BeginsCourse, FollowsEntry, IsFollowed, TellsCourse}
use Rattle.cacao_view_graph.specs.declared.course.Course.{Course}

-- ---- one record more

behind_more : (s : Shown) (rs : List Record) (r : Record) → behind_all s (rs ++ r ∷ []) ≡ behind (behind_all s rs) r
behind_more s [] r = refl
behind_more s (q ∷ rs) r = behind_more (behind s q) rs r

walks_more : (s : Shown) (rs : List Record) (r : Record) → walks s (rs ++ r ∷ []) ≡ walks s rs ++ walked_by (behind_all s rs) r
walks_more s [] r = append-nil (walked_by s r)
walks_more s (q ∷ rs) r =
    ap (λ l. walked_by s q ++ l) (walks_more (behind s q) rs r) ∙ sym (append_assoc (walked_by s q) (walks (behind s q) rs) (walked_by (behind_all (behind s q) rs) r))

sends_more : (s : Shown) (rs : List Record) (r : Record) → sends s (rs ++ r ∷ []) ≡ sends s rs ++ sent_by (behind_all s rs) r
sends_more s [] r = append-nil (sent_by s r)
sends_more s (q ∷ rs) r =
    ap (λ l. sent_by s q ++ l) (sends_more (behind s q) rs r) ∙ sym (append_assoc (sent_by s q) (sends (behind s q) rs) (sent_by (behind_all (behind s q) rs) r))

-- what is shown behind a record that was taken
pub behind_is : (s : Shown) (r : Record) (edits : List Edit) → change s r ≡ Some edits → shown_after (moment_of r) edits s ≡ behind s r
behind_is s r edits e = ap (λ o. option_map_or (λ edits. shown_after (moment_of r) edits s) o s) (sym e)

some_count : (n : ℕ) (begin : Record) (others records : List Record) → n ≡ length records → records ≡ begin ∷ others → n ≡ suc (length others)
some_count n begin others records count are = count ∙ ap length are

same_records : (xs ys : List Record) → AllByRecursion InRange xs → AllByRecursion InRange ys → entries_of xs ≡ entries_of ys → xs ≡ ys
same_records xs ys p q e = sym (records_back xs p) ∙ ap records_of e ∙ records_back ys q

pub followed_more : (given : Given) (run : ℕ) (items : List (List ℕ)) (v w : View) (old new : Course) (item : List ℕ) → IsFollowed given run items v old → FollowsEntry v old item w new → IsFollowed given run (items ++ item ∷ []) w new
followed_more given run items v w old new item h t =
    let r : Record = t.takes.r in
    let was = h.replayed.1 in
    let same : was.records ≡ h.begin ∷ h.others = same_records was.records (h.begin ∷ h.others) was.ranges h.ranges (sym was.are ∙ h.are) in
    let count : v.count ≡ suc (length h.others) = some_count v.count h.begin h.others was.records was.count same in
    let changes : change v.seen r ≡ Some t.takes.edits = taken_later v r (Some t.takes.edits) (length h.others) count t.takes.takes in
    let seen : w.seen ≡ behind (behind_all h.first h.others) r =
    ap (λ (x : View). x.seen) t.takes.new_is ∙ behind_is v.seen r t.takes.edits changes ∙ ap (λ (s : Shown). behind s r) h.seen_is in
    record {
      replayed = taken_more given run items v w item h.replayed t.takes;
      begin = h.begin;
      others = h.others ++ r ∷ [];
      first = h.first;
      ranges = all_push InRange (h.begin ∷ h.others) r h.ranges t.takes.in_range;
      are = ap (λ (l : List (List ℕ)). l ++ item ∷ []) h.are ∙ ap (λ (e : List ℕ). entries_of (h.begin ∷ h.others) ++ e ∷ []) t.takes.is ∙ sym (entries_push (h.begin ∷ h.others) r);
      shows = h.shows;
      seen_is = seen ∙ sym (behind_more h.first h.others r);
      walked_are = t.adds.walked ∙ ap (λ l. l ++ walked_by v.seen r) h.walked_are ∙ ap (λ s. walks h.first h.others ++ walked_by s r) h.seen_is ∙ sym (walks_more h.first h.others r);
      sent_are = t.adds.sent ∙ ap (λ l. l ++ sent_by v.seen r) h.sent_are ∙ ap (λ s. sends h.first h.others ++ sent_by s r) h.seen_is ∙ sym (sends_more h.first h.others r);
    }

-- ---- the first one

so_one : (r : Record) (records : List Record) (seen : Shown) → records ≡ r ∷ [] → IsSoFar records seen → IsShownAfter seen.given seen.run (r ∷ []) seen
so_one r records seen e h = subst (λ (l : List Record). IsSoFar l seen) e h

pub followed_first : (item : List ℕ) (r : Record) (flow : View) (course : Course) → IsEntryOf r item → InRange r → HasBegun item flow → course.walked.items ≡ [] → course.sent.items ≡ []
    → IsFollowed flow.seen.given flow.seen.run (item ∷ []) flow course
followed_first item r flow course of in_range begun walked sent =
    let was = begun.replayed.1 in
    let are : item ∷ [] ≡ entries_of (r ∷ []) = ap (λ (e : List ℕ). e ∷ []) of.is in
    let same : was.records ≡ r ∷ [] = same_records was.records (r ∷ []) was.ranges (in_range, tt) (sym was.are ∙ are) in
    record {
      replayed = begun.replayed;
      begin = r;
      others = [];
      first = flow.seen;
      ranges = (in_range, tt);
      are = are;
      shows = so_one r was.records flow.seen same was.so_far;
      seen_is = refl;
      walked_are = walked;
      sent_are = sent;
    }

pub begins_take : (items : List (List ℕ)) (first : List ℕ) (flow : View) (course : Course) → items ≡ first ∷ drop 1 items
    → IsFollowed flow.seen.given flow.seen.run (first ∷ []) flow course → IsFollowed flow.seen.given flow.seen.run (take 1 items) flow course
begins_take items first flow course are h =
    subst (λ (l : List (List ℕ)). IsFollowed flow.seen.given flow.seen.run l flow course) (sym (ap (take 1) are)) h

-- ---- all

pub tells_course : (items : List (List ℕ)) (first : List ℕ) (begun flow : View) (course : Course) → items ≡ first ∷ drop 1 items → HasBegun first begun
    → IsFollowed begun.seen.given begun.seen.run items flow course → length flow.seen.lists.tasks ≤ 1_000_000 → TellsCourse items flow course
tells_course items first begun flow course are h followed few =
    let r = followed.replayed.1 in
    let begin : IsBegin first flow.seen.given flow.seen.run =
    subst (λ (g : Given). IsBegin first g flow.seen.run) (sym r.given_is) (subst (λ (n : ℕ). IsBegin first begun.seen.given n) (sym r.run_is) h.begin) in
    let same : r.records ≡ followed.begin ∷ followed.others = same_records r.records (followed.begin ∷ followed.others) r.ranges followed.ranges (sym r.are ∙ followed.are) in
    let shows : IsShownAfter flow.seen.given flow.seen.run (followed.begin ∷ []) followed.first =
    subst (λ (g : Given). IsShownAfter g flow.seen.run (followed.begin ∷ []) followed.first) (sym r.given_is)
    (subst (λ (n : ℕ). IsShownAfter begun.seen.given n (followed.begin ∷ []) followed.first) (sym r.run_is) followed.shows) in
    record {
      records = r.records;
      tells = record {
        begins = record { first = first; others = drop 1 items; are = are; begin = begin };
        are = r.are;
        ranges = r.ranges;
        shows = subst (λ (l : List Record). IsShownAfter flow.seen.given flow.seen.run l flow.seen) (sym same) (subst (λ (l : List Record). IsSoFar l flow.seen) same r.so_far);
        tasks = few;
      };
      count = r.count;
      course_is = record {
        begin = followed.begin;
        others = followed.others;
        first = followed.first;
        are = same;
        shows = shows;
        walked_are = followed.walked_are;
        sent_are = followed.sent_are;
      };
    }

-- what the first entry began
pub begun_course : {E : Type 0} (entry : List ℕ) (r : Record) (course : Course) (result : Result (Option View) E) → IsEntryOf r entry → InRange r → course.walked.items ≡ [] → course.sent.items ≡ []
    → IfOk result (λ o. MatchOption o (IsNotBegun entry) (HasBegun entry)) → IfOk result (λ o. MatchOption o (IsNotBegun entry) (BeginsCourse entry course))
begun_course entry r course (Ok None) of in_range walked sent h = h
begun_course entry r course (Ok (Some flow)) of in_range walked sent h = record { begun = h; followed = followed_first entry r flow course of in_range h walked sent }
begun_course entry r course (Err error) of in_range walked sent h = tt
