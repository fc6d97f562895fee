-- Tasks and issues, noted one after another.
use Rattle.std.proofs.Common.{◌≡◌, ◌∙◌, ℕ, zero, suc, ◌+◌, ◌<◌, ◌≤◌, List, [], ◌∷◌, ◌++◌, length, drop, map, Option, Some, None, slice_get, option_map, option_to_list, refl, sym, ap, arith, append_assoc, append-nil}
use Rattle.std.proofs.lemmas.List.{drop_all}
use Rattle.std.proofs.lemmas.Option.{none-some, same_Some, slice_get_within}
use Rattle.flow_core_rules.specs.Lines.{key_of}
use Rattle.flow_core_rules.specs.State.{Shown}
use Rattle.flow_core_rules.specs.declared.issues.Issue.{Issue}
use Rattle.flow_core_rules.specs.declared.tasks.Task.{Task}
use Rattle.cacao_view_graph.specs.declared.note.Note.{Note}
use Rattle.cacao_view_graph.specs.declared.spot.Spot.{Spot}
use Rattle.cacao_view_graph.specs.Courses.{spot_of}
use Rattle.cacao_view_graph.specs.Cutting.{behind, behind_way, behind_words, first_line, lines_from_issue, lines_from_task, way_of, way_text, way_told}
use Rattle.cacao_view_graph.specs.Notes.{issue_note, issue_notes, issue_text, note_at, task_note, task_notes, task_text}
use Rattle.cacao_view_graph.specs.declared.way.Way.{Way}
use Rattle.cacao_view_graph.proofs.RunLineLemmas.{IsIssueCut, IsTaskCut, issue_cut, past_tasks, task_cut, way_noted}

-- ---- where a task stands

abbrev pub stand_in : Option Task → Option (ℕ × ℕ)
stand_in o = option_map {U = ℕ × ℕ} (λ (one : Task). (one.book, one.step)) o

abbrev pub spot_by : ℕ × ℕ → Spot
spot_by stand = record { book = stand.0; step = stand.1 }

same_spot : (task : Task) (stand : ℕ × ℕ) → stand_in (Some task) ≡ Some stand → spot_of task ≡ spot_by stand
same_spot task stand e = ap spot_by (same_Some {A = ℕ × ℕ} (task.book, task.step) stand e)

pub spot_some : (o : Option Task) (stand : ℕ × ℕ) → stand_in o ≡ Some stand → map spot_of (option_to_list o) ≡ spot_by stand ∷ []
spot_some None stand e = absurd (none-some stand e)
spot_some (Some task) stand e = ap (λ (s : Spot). s ∷ []) (same_spot task stand e)

none_stands : (o : Option Task) → stand_in o ≡ None → o ≡ None
none_stands None e = refl
none_stands (Some task) e = absurd (none-some _ (sym e))

pub spot_none : (o : Option Task) → stand_in o ≡ None → map spot_of (option_to_list o) ≡ []
spot_none o e = ap (λ (p : Option Task). map spot_of (option_to_list p)) (none_stands o e)

-- ---- what is left of a list

left : {X : Type 0} (xs : List X) (n : ℕ) (x : X) → slice_get xs n ≡ Some x → drop n xs ≡ x ∷ drop (n + 1) xs
left [] n x e = absurd (none-some x e)
left (y ∷ ys) zero x e = ap (λ z. z ∷ ys) (same_Some y x e)
left (y ∷ ys) (suc n) x e = left ys n x e ∙ ap (λ k. x ∷ drop k (y ∷ ys)) (let s : suc (n + 1) ≡ suc n + 1 = omega arith in s)

-- past the end nothing is left
none_left : {X : Type 0} (xs : List X) (n : ℕ) → slice_get xs n ≡ None → drop n xs ≡ []
none_left [] zero e = refl
none_left [] (suc n) e = refl
none_left (x ∷ xs) zero e = absurd (none-some x (sym e))
none_left (x ∷ xs) (suc n) e = none_left xs n e

-- an issue that is there, and those behind it
pub record IsThere (issues : List Issue) (n : ℕ) : Type 0 where
  pub issue : Issue
  pub is : drop n issues ≡ issue ∷ drop (n + 1) issues

there : (issues : List Issue) (n : ℕ) → n < length issues → IsThere issues n
there [] n lt = absurd (omega (arith, lt))
there (i ∷ issues) zero lt = record { issue = i; is = refl }
there (i ∷ issues) (suc n) lt =
    let rest : IsThere issues n = there issues n (omega (arith, lt)) in
    record {
      issue = rest.issue;
      is = rest.is ∙ ap (λ k. rest.issue ∷ drop k (i ∷ issues)) (let s : suc (n + 1) ≡ suc n + 1 = omega arith in s);
    }

-- ---- one task

pub told_rest : (key : ℕ) (lines words rest : List ℕ) (way : Way) → words ≡ behind_words lines → way ≡ way_told words → rest ≡ behind_way key way words → rest ≡ behind_way key (way_told (behind_words lines)) (behind_words lines)
told_rest key lines words rest way words_are way_is rest_is =
    rest_is ∙ ap (λ (w : Way). behind_way key w words) way_is ∙ ap (λ (l : List ℕ). behind_way key (way_told l) l) words_are

pub told_note : (task : ℕ) (spot : Spot) (lines words text : List ℕ) (way : Way) (old new : List Note) → words ≡ behind_words lines → way ≡ way_told words → text ≡ way_text task way → new ≡ old ++ note_at spot text ∷ []
    → new ≡ old ++ note_at spot (way_text task (way_told (behind_words lines))) ∷ []
told_note task spot lines words text way old new words_are way_is text_is is =
    is ∙ ap (λ (t : List ℕ). old ++ note_at spot t ∷ []) (text_is ∙ ap (way_text task) (way_is ∙ ap way_told words_are))

-- ---- tasks

-- so many tasks are noted; what is left to note
pub record NotesTasks (s : Shown) (n : ℕ) (rest : List ℕ) (notes all : List Note) : Type 0 where
  pub within : n ≤ length s.lists.tasks
  pub lines : rest ≡ lines_from_task s n
  pub noted : notes ++ task_notes n (drop n s.lists.tasks) ≡ all

task_noted : (tasks : List Task) (n : ℕ) (task : Task) (old new all : List Note) → drop n tasks ≡ task ∷ drop (n + 1) tasks → new ≡ old ++ task_note n task ∷ []
    → old ++ task_notes n (drop n tasks) ≡ all → new ++ task_notes (n + 1) (drop (n + 1) tasks) ≡ all
task_noted tasks n task old new all at is before =
    let next : n + 1 ≡ suc n = omega arith in
    let behind_it : List Task = drop (n + 1) tasks in
    ap (λ (l : List Note). l ++ task_notes (n + 1) behind_it) is ∙ append_assoc old (task_note n task ∷ []) (task_notes (n + 1) behind_it)
    ∙ ap (λ (k : ℕ). old ++ task_note n task ∷ task_notes k behind_it) next ∙ ap (λ (l : List Task). old ++ task_notes n l) (sym at) ∙ before

task_by : (s : Shown) (n : ℕ) (stand : ℕ × ℕ) (key : ℕ) (lines rest : List ℕ) (old new all : List Note) (o : Option Task) → slice_get s.lists.tasks n ≡ o → stand_in o ≡ Some stand → key ≡ length (key_of s n)
    → rest ≡ behind_way key (way_told (behind_words lines)) (behind_words lines) → new ≡ old ++ note_at (spot_by stand) (way_text n (way_told (behind_words lines))) ∷ []
    → NotesTasks s n lines old all → NotesTasks s (n + 1) rest new all
task_by s n stand key lines rest old new all None here stands key_is rest_is new_is h = absurd (none-some stand stands)
task_by s n stand key lines rest old new all (Some task) here stands key_is rest_is new_is h =
    let lt : n < length s.lists.tasks = slice_get_within s.lists.tasks n task here in
    let at : drop n s.lists.tasks ≡ task ∷ drop (n + 1) s.lists.tasks = left s.lists.tasks n task here in
    let cut : IsTaskCut s n task (behind_words (lines_from_task s n)) = task_cut s n task at in
    let way : way_told (behind_words lines) ≡ way_of task.phase = ap (λ (l : List ℕ). way_told (behind_words l)) h.lines ∙ cut.way in
    let text : way_text n (way_told (behind_words lines)) ≡ task_text n task.phase = ap (way_text n) way ∙ way_noted n task.phase in
    let is : new ≡ old ++ task_note n task ∷ [] =
    new_is ∙ ap (λ (t : List ℕ). old ++ note_at (spot_by stand) t ∷ []) text ∙ ap (λ (p : Spot). old ++ note_at p (task_text n task.phase) ∷ []) (sym (same_spot task stand stands)) in
    record {
      within = omega (arith, lt);
      lines = rest_is ∙ ap (λ (k : ℕ). behind_way k (way_told (behind_words lines)) (behind_words lines)) key_is
          ∙ ap (λ (w : Way). behind_way (length (key_of s n)) w (behind_words lines)) way
          ∙ ap (λ (l : List ℕ). behind_way (length (key_of s n)) (way_of task.phase) (behind_words l)) h.lines ∙ cut.rest;
      noted = task_noted s.lists.tasks n task old new all at is h.noted;
    }

-- one task more is noted
pub task_step : (s : Shown) (n : ℕ) (stand : ℕ × ℕ) (key : ℕ) (lines rest : List ℕ) (old new all : List Note) → stand_in (slice_get s.lists.tasks n) ≡ Some stand → key ≡ length (key_of s n)
    → rest ≡ behind_way key (way_told (behind_words lines)) (behind_words lines) → new ≡ old ++ note_at (spot_by stand) (way_text n (way_told (behind_words lines))) ∷ []
    → NotesTasks s n lines old all → NotesTasks s (n + 1) rest new all
task_step s n stand key lines rest old new all stands key_is rest_is new_is h = task_by s n stand key lines rest old new all (slice_get s.lists.tasks n) refl stands key_is rest_is new_is h

no_task_left : (s : Shown) (n : ℕ) → stand_in (slice_get s.lists.tasks n) ≡ None → drop n s.lists.tasks ≡ []
no_task_left s n none = none_left s.lists.tasks n (none_stands (slice_get s.lists.tasks n) none)

-- all are noted
pub tasks_rest : (s : Shown) (n : ℕ) (rest : List ℕ) (notes all : List Note) → stand_in (slice_get s.lists.tasks n) ≡ None → NotesTasks s n rest notes all → rest ≡ lines_from_issue s 0
tasks_rest s n rest notes all none h = h.lines ∙ past_tasks s n (no_task_left s n none)

pub tasks_noted : (s : Shown) (n : ℕ) (rest : List ℕ) (notes all : List Note) → stand_in (slice_get s.lists.tasks n) ≡ None → NotesTasks s n rest notes all → notes ≡ all
tasks_noted s n rest notes all none h =
    sym (append-nil notes) ∙ ap (λ (l : List Task). notes ++ task_notes n l) (sym (no_task_left s n none)) ∙ h.noted

-- ---- issues

-- so many issues are noted; what is left to note
pub record NotesIssues (s : Shown) (sent : List Spot) (n : ℕ) (rest : List ℕ) (notes all : List Note) : Type 0 where
  pub lines : rest ≡ lines_from_issue s n
  pub noted : notes ++ issue_notes n (drop n sent) (drop n s.lists.issues) ≡ all

issue_noted : (spots : List Spot) (issues : List Issue) (n : ℕ) (spot : Spot) (issue : Issue) (old new all : List Note) → drop n spots ≡ spot ∷ drop (n + 1) spots → drop n issues ≡ issue ∷ drop (n + 1) issues
    → new ≡ old ++ issue_note n spot issue ∷ [] → old ++ issue_notes n (drop n spots) (drop n issues) ≡ all → new ++ issue_notes (n + 1) (drop (n + 1) spots) (drop (n + 1) issues) ≡ all
issue_noted spots issues n spot issue old new all here there is before =
    let next : n + 1 ≡ suc n = omega arith in
    let rest : List Note = issue_notes (n + 1) (drop (n + 1) spots) (drop (n + 1) issues) in
    ap (λ (l : List Note). l ++ rest) is ∙ append_assoc old (issue_note n spot issue ∷ []) rest
    ∙ ap (λ (k : ℕ). old ++ issue_note n spot issue ∷ issue_notes k (drop (n + 1) spots) (drop (n + 1) issues)) next
    ∙ ap (λ (l : List Spot). old ++ issue_notes n l (issue ∷ drop (n + 1) issues)) (sym here) ∙ ap (λ (l : List Issue). old ++ issue_notes n (drop n spots) l) (sym there) ∙ before

-- one issue more is noted
pub issue_step : (s : Shown) (sent : List Spot) (n : ℕ) (spot : Spot) (lines rest : List ℕ) (old new all : List Note) → n < length s.lists.issues → slice_get sent n ≡ Some spot
    → rest ≡ behind 10 lines → new ≡ old ++ note_at spot (first_line lines) ∷ [] → NotesIssues s sent n lines old all → NotesIssues s sent (n + 1) rest new all
issue_step s sent n spot lines rest old new all lt here rest_is new_is h =
    let one : IsThere s.lists.issues n = there s.lists.issues n lt in
    let cut : IsIssueCut s n one.issue = issue_cut s n one.issue one.is in
    let text : first_line lines ≡ issue_text n one.issue = ap first_line h.lines ∙ cut.text in
    record {
      lines = rest_is ∙ ap (behind 10) h.lines ∙ cut.rest;
      noted = issue_noted sent s.lists.issues n spot one.issue old new all (left sent n spot here) one.is (new_is ∙ ap (λ (t : List ℕ). old ++ note_at spot t ∷ []) text) h.noted;
    }

no_spots : (n : ℕ) (issues : List Issue) → issue_notes n [] issues ≡ []
no_spots n [] = refl
no_spots n (issue ∷ issues) = refl

no_issues : (n : ℕ) (spots : List Spot) → issue_notes n spots [] ≡ []
no_issues n [] = refl
no_issues n (spot ∷ spots) = refl

-- all that have a step are noted
pub spots_noted : (s : Shown) (sent : List Spot) (n : ℕ) (rest : List ℕ) (notes all : List Note) → slice_get sent n ≡ None → NotesIssues s sent n rest notes all → notes ≡ all
spots_noted s sent n rest notes all none h =
    sym (append-nil notes) ∙ ap (λ (l : List Note). notes ++ l) (sym (no_spots n (drop n s.lists.issues)))
    ∙ ap (λ (l : List Spot). notes ++ issue_notes n l (drop n s.lists.issues)) (sym (none_left sent n none)) ∙ h.noted

-- all are noted
pub issues_noted : (s : Shown) (sent : List Spot) (n : ℕ) (rest : List ℕ) (notes all : List Note) → length s.lists.issues ≤ n → NotesIssues s sent n rest notes all → notes ≡ all
issues_noted s sent n rest notes all past h =
    sym (append-nil notes) ∙ ap (λ (l : List Note). notes ++ l) (sym (no_issues n (drop n sent)))
    ∙ ap (λ (l : List Issue). notes ++ issue_notes n (drop n sent) l) (sym (drop_all n s.lists.issues past)) ∙ h.noted
