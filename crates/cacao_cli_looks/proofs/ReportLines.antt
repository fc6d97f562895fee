-- The lines of a report are no record's.
use Rattle.std.proofs.Common.{◌≡◌, inl, inr, ◌∙◌, refl, sym, ap, subst, arith, ℕ, zero, suc, ◌≤◌, ◌==◌, ◌&&◌, Bool, true, false, List, [], ◌∷◌, ◌++◌, append_assoc, append-nil, length, map, All, Option, Some, None}
use Rattle.std.specs.Prelude.{IfSome, IsSomeAnd, codes, if◌then◌else◌, not, option_and_then, option_map, slice_get, unwrap_or}
use Rattle.std.specs.Fmt.{decimal}
use Rattle.std.specs.List.{list_all}
use Rattle.std.proofs.lemmas.Bool.{true≢false}
use Rattle.std.proofs.lemmas.List.Splits.{slice_split_at}
use Rattle.serde_json.specs.Data.{Data, Members}
use Rattle.serde_json.specs.Find.{get, as_object}
use Rattle.cacao_book.specs.Books.{book, step_of, var_of}
use Rattle.cacao_book.specs.declared.books.Book.{Book}
use Rattle.cacao_book.specs.declared.steps.Step.{Step}
use Rattle.cacao_vars.specs.declared.declarations.Var.{Var}
use Rattle.cacao_vars.specs.declared.scoping.Scope.{Scope}
use Rattle.cacao_vars.specs.declared.scoping.Write.{Write}
use Rattle.flow_core_rules.specs.Changes.{outcome, moment_of}
use Rattle.flow_core_rules.specs.Givens.{Given, step_at}
use Rattle.flow_core_rules.specs.Laws.{is_digit}
use Rattle.flow_core_rules.specs.Lines.{agent_word, issue_lines, issue_words, key_of, line, line_from, maybe_number, maybe_text, outcome_words, phase_words, report, task_lines, variable_lines, well_words}
use Rattle.flow_core_rules.specs.State.{Shown, State, Texts, shown, texts_from, texts_now}
use Rattle.flow_core_rules.specs.declared.issues.Issue.{Issue}
use Rattle.flow_core_rules.specs.declared.issues.IssuePhase.{IssuePhase}
use Rattle.flow_core_rules.specs.declared.issues.IssuePhase.TheVariants as issue_phase
use Rattle.flow_core_rules.specs.declared.phases.Phase.{Phase}
use Rattle.flow_core_rules.specs.declared.phases.Phase.TheVariants as phase
use Rattle.flow_core_rules.specs.declared.tasks.Task.{Task}
use Rattle.flow_core_rules.proofs.LineLemmas.{others_are_no_records}
use Rattle.oc2_nets.specs.Texts.{parts}
use Rattle.cacao_book_shape.specs.Members.{IsObject, ObjectOf, members_at, members_in}
use Rattle.cacao_book_shape.specs.Shape.{IsDeclaration, K3, K4, KeepsOfBook, ShapeRule, k3, k4, workflow}
use Rattle.cacao_check.specs.FirstBreak.{IsAccepted, of_shape}
use Rattle.cacao_check.specs.Fits.{FitsKind}
use Rattle.cacao_check.specs.declared.breaks.Mode.TheVariants.{Run}
use Rattle.cacao_ids.specs.Ids.{IsId}
use Rattle.cacao_vars.specs.Names.{IsName}
use Rattle.cacao_cli_words.specs.Words.{Text}
use Rattle.run_records.specs.declared.record.Record.{Record}
use Rattle.flow_engine_reports.specs.RunLines.{Reports, each_line, lines_of, no_run}
use Rattle.std.proofs.lemmas.Option.{none-some}
use Rattle.flow_core_setup.proofs.SetupLists.{mapped_at}
use Rattle.flow_core_setup.proofs.SetupRunnable.{members_all}
use Rattle.flow_core.specs.Setups.{AreAccepted}
use Rattle.flow_core_rules.specs.Accepted.{Accepted}
use Rattle.flow_core_rules.specs.Edits.{Edit, all_edited, closes, edited, issues, makes, moves, opens, upgrades, writes}
use Rattle.flow_core_rules.specs.Runs.{GoesOn, Leads, after, begun, blank, first_task}
use Rattle.cacao_cli_looks.proofs.AgreeLemmas.{AreOtherLines}
use Rattle.cacao_cli_looks.proofs.ReportWords.{IsWord, both-words, first-true, id-word, is_other_than_feed, name-word, number-word, second-true, string-word}

-- ---- lines that begin with no digit

-- a text of lines, each of which has no line feed but at its end, and begins with no digit
pub data AreClean : List ℕ → Type 0 where
  no_line : AreClean []
  one_more : (c : ℕ) (word rest : List ℕ) → is_digit c ≡ false → IsWord (c ∷ word) → AreClean rest → AreClean ((c ∷ word) ++ 10 ∷ rest)

both-clean : (xs ys : List ℕ) → AreClean xs → AreClean ys → AreClean (xs ++ ys)
both-clean xs ys no_line q = q
both-clean xs ys (one_more c word rest digit plain p) q =
    subst AreClean (sym (append_assoc (c ∷ word) (10 ∷ rest) ys)) (one_more c word (rest ++ ys) digit plain (both-clean rest ys p q))

no-feeds : (text : List ℕ) → IsWord text → All (λ c. (c == 10) ≡ false) text
no-feeds [] h k d lt = absurd (omega (arith, lt))
no-feeds (c ∷ text) h zero d lt = other (c == 10) refl
  where
    first : (b : Bool) → (is_other_than_feed c && b) ≡ true → is_other_than_feed c ≡ true
    first b e = first-true (is_other_than_feed c) b e

    other : (b : Bool) → (c == 10) ≡ b → (c == 10) ≡ false
    other false e = e
    other true e = absurd (true≢false (sym (first (list_all is_other_than_feed text) h) ∙ ap not e))
no-feeds (c ∷ text) h (suc k) d lt = no-feeds text (second-true (is_other_than_feed c) (list_all is_other_than_feed text) h) k d (omega (arith, lt))

cut : (c : ℕ) (word rest : List ℕ) → IsWord (c ∷ word) → parts 10 ((c ∷ word) ++ 10 ∷ rest) ≡ (c ∷ word) ∷ parts 10 rest
cut c word rest h = slice_split_at (λ x. x == 10) (c ∷ word) 10 rest (no-feeds (c ∷ word) h) refl

some-parts : (text : List ℕ) → AreClean text → (first : List ℕ) × (more : List (List ℕ)) × (parts 10 text ≡ first ∷ more)
some-parts text no_line = ([], [], refl)
some-parts text (one_more c word rest digit plain p) = (c ∷ word, parts 10 rest, cut c word rest plain)

each-more : (line : List ℕ) (others : List (List ℕ)) (first : List ℕ) (more : List (List ℕ)) → others ≡ first ∷ more → each_line (line ∷ others) ≡ (line ++ 10 ∷ []) ∷ each_line others
each-more line others first more is = ap (λ (l : List (List ℕ)). each_line (line ∷ l)) is ∙ ap (λ (l : List (List ℕ)). (line ++ 10 ∷ []) ∷ each_line l) (sym is)

parts-others : (text : List ℕ) → AreClean text → AreOtherLines (each_line (parts 10 text))
parts-others text no_line = tt
parts-others text (one_more c word rest digit plain p) =
    let some = some-parts rest p in
    subst AreOtherLines (sym (ap each_line (cut c word rest plain) ∙ each-more (c ∷ word) (parts 10 rest) some.0 some.1 some.2))
    (others_are_no_records.no_number c (word ++ 10 ∷ []) digit, parts-others rest p)

clean-others : (text : List ℕ) → AreClean text → AreOtherLines (lines_of text)
unfolding lines_of
clean-others text h = parts-others text h

-- ---- lines of words

abbrev AreWords : List (List ℕ) → Type 0
AreWords [] = Unit {0}
AreWords (word ∷ words) = IsWord word × AreWords words

-- words with a space before each
abbrev spaced : List (List ℕ) → List ℕ
spaced [] = []
spaced (word ∷ words) = 32 ∷ (word ++ spaced words)

spaced-line : (words : List (List ℕ)) → line words ≡ spaced words ++ 10 ∷ []
spaced-line [] = refl
spaced-line (word ∷ words) = ap (λ (l : List ℕ). 32 ∷ l) (ap (λ (l : List ℕ). word ++ l) (spaced-line words) ∙ sym (append_assoc word (spaced words) (10 ∷ [])))

spaced-word : (words : List (List ℕ)) → AreWords words → IsWord (spaced words)
spaced-word [] h = refl
spaced-word (word ∷ words) h = both-words word (spaced words) h.0 (spaced-word words h.1)

-- a line that begins with a letter
clean-line : (c : ℕ) (first : List ℕ) (words : List (List ℕ)) → is_digit c ≡ false → IsWord (c ∷ first) → AreWords words → AreClean (line_from (c ∷ first) words)
clean-line c first words digit plain all =
    subst AreClean (sym (ap (λ (l : List ℕ). (c ∷ first) ++ l) (spaced-line words) ∙ sym (append_assoc (c ∷ first) (spaced words) (10 ∷ []))))
    (one_more c (first ++ spaced words) [] digit (both-words (c ∷ first) (spaced words) plain (spaced-word words all)) no_line)

-- ---- the parts of a report

well-words : (well : Bool) → AreWords (well_words well)
well-words true = (refl, (refl, tt))
well-words false = (refl, (refl, tt))

-- the key of the step at which a task stands has no line feed
abbrev pub KeysAreWords : Shown → Type 0
KeysAreWords s = (t : ℕ) → IsWord (key_of s t)

phase-words : (s : Shown) (t : ℕ) (at : Phase) → KeysAreWords s → AreWords (phase_words s t at)
phase-words s t (phase.At since) keys = (refl, (keys t, tt))
phase-words s t (phase.Sending n) keys = (refl, (keys t, tt))
phase-words s t (phase.Awaiting place n) keys = (refl, (keys t, tt))
phase-words s t (phase.Joining from) keys = (refl, (keys t, tt))
phase-words s t (phase.Ended well) keys = well-words well

maybe-number : (o : Option ℕ) → IsWord (maybe_number o)
maybe-number None = refl
maybe-number (Some n) = number-word n

tasks-clean : (s : Shown) (t : ℕ) (tasks : List Task) → KeysAreWords s → AreClean (task_lines s t tasks)
tasks-clean s t [] keys = no_line
tasks-clean s t (task ∷ tasks) keys =
    both-clean (line_from (codes "task") (decimal t ∷ maybe_number task.parent ∷ phase_words s t task.phase)) (task_lines s (suc t) tasks)
    (clean-line 116 (codes "ask") (decimal t ∷ maybe_number task.parent ∷ phase_words s t task.phase) refl refl (number-word t, (maybe-number task.parent, phase-words s t task.phase keys)))
    (tasks-clean s (suc t) tasks keys)

issue-words : (at : IssuePhase) → AreWords (issue_words at)
issue-words issue_phase.Waiting = (refl, tt)
issue-words (issue_phase.Answered status) = (refl, (number-word status, tt))
issue-words (issue_phase.Told status) = (refl, (number-word status, tt))
issue-words issue_phase.Expired = (refl, tt)

agent-word : (agent : ℕ) → IsWord (agent_word agent)
agent-word agent = go (agent == 0)
  where
    go : (b : Bool) → IsWord (if b then codes "-" else decimal agent)
    go true = refl
    go false = number-word agent

issues-clean : (n : ℕ) (list : List Issue) → AreClean (issue_lines n list)
issues-clean n [] = no_line
issues-clean n (issue ∷ list) =
    both-clean (line_from (codes "issue") (decimal n ∷ agent_word issue.agent ∷ issue_words issue.phase)) (issue_lines (suc n) list)
    (clean-line 105 (codes "ssue") (decimal n ∷ agent_word issue.agent ∷ issue_words issue.phase) refl refl (number-word n, (agent-word issue.agent, issue-words issue.phase)))
    (issues-clean (suc n) list)

-- the names have no line feed
abbrev pub NamesAreWords : Texts → Type 0
NamesAreWords [] = Unit {0}
NamesAreWords (entry ∷ texts) = IsWord entry.0 × NamesAreWords texts

text-word : (o : Option (List ℕ)) → IsWord (maybe_text o)
text-word None = refl
text-word (Some text) = string-word text

variables-clean : (texts : Texts) → NamesAreWords texts → AreClean (variable_lines texts)
variables-clean [] names = no_line
variables-clean (entry ∷ texts) names =
    both-clean (line_from (codes "var") (entry.0 ∷ maybe_text entry.1 ∷ [])) (variable_lines texts)
    (clean-line 118 (codes "ar") (entry.0 ∷ maybe_text entry.1 ∷ []) refl refl (names.0, (text-word entry.1, tt))) (variables-clean texts names.1)

outcome-words : (o : Option Bool) → AreWords (outcome_words o)
outcome-words None = (refl, tt)
outcome-words (Some well) = well-words well

report-clean : (s : Shown) (count : ℕ) → KeysAreWords s → NamesAreWords (unwrap_or (slice_get s.lists.texts 0) []) → AreClean (report s count)
report-clean s count keys names =
    both-clean (line_from (codes "run") (decimal s.run ∷ [])) _ (clean-line 114 (codes "un") (decimal s.run ∷ []) refl refl (number-word s.run, tt))
    (both-clean (line_from (codes "records") (decimal count ∷ [])) _ (clean-line 114 (codes "ecords") (decimal count ∷ []) refl refl (number-word count, tt))
    (both-clean (line_from (codes "moment") (decimal s.moment ∷ [])) _ (clean-line 109 (codes "oment") (decimal s.moment ∷ []) refl refl (number-word s.moment, tt))
    (both-clean (task_lines s 0 s.lists.tasks) _ (tasks-clean s 0 s.lists.tasks keys)
    (both-clean (issue_lines 0 s.lists.issues) _ (issues-clean 0 s.lists.issues)
    (both-clean (variable_lines (unwrap_or (slice_get s.lists.texts 0) [])) _ (variables-clean (unwrap_or (slice_get s.lists.texts 0) []) names)
    (clean-line 115 (codes "tate") (outcome_words (outcome s.lists)) refl refl (outcome-words (outcome s.lists))))))))

-- ---- keys and names of what is accepted

inner : {A : Type 0} (x y : A) → Some x ≡ Some y → x ≡ y
inner x y e = cc

-- the members of an object of so many, each of which fits
some-fit : (least most : ℕ) (Fits : List ℕ → Data → Type 0) (o : Option Data) → IsSomeAnd o (ObjectOf least most Fits) → IfSome o (λ d. IsSomeAnd (as_object d) (λ ms. All (λ m. Fits m.0 m.1) (members_in ms)))
some-fit least most Fits None h = tt
some-fit least most Fits (Some d) h = go (as_object d) h
  where
    go : (o : Option Members) → IsSomeAnd o (λ ms. (least ≤ length (members_in ms)) × (length (members_in ms) ≤ most) × All (λ m. Fits m.0 m.1) (members_in ms)) → IsSomeAnd o (λ ms. All (λ m. Fits m.0 m.1) (members_in ms))
    go None h = h
    go (Some ms) h = h.2

may-fit : (least most : ℕ) (Fits : List ℕ → Data → Type 0) (o : Option Data) → IfSome o (ObjectOf least most Fits) → IfSome o (λ d. IsSomeAnd (as_object d) (λ ms. All (λ m. Fits m.0 m.1) (members_in ms)))
may-fit least most Fits None h = tt
may-fit least most Fits (Some d) h = some-fit least most Fits (Some d) h

workflow-keys : (t : Data) → K4 t → All (λ (m : List ℕ × Data). IsId m.0 × IsObject m.1) (workflow t)
workflow-keys t h = members_all (λ (m : List ℕ × Data). IsId m.0 × IsObject m.1) (get (codes "workflow") t) (some-fit 1 4096 (λ key step. IsId key × IsObject step) (get (codes "workflow") t) h.2)

variable-names : (t : Data) → K3 t → All (λ (m : List ℕ × Data). IsName m.0 × IsDeclaration m.1) (members_at (codes "playbook_variables") t)
variable-names t h = members_all (λ (m : List ℕ × Data). IsName m.0 × IsDeclaration m.1) (get (codes "playbook_variables") t) (may-fit 0 1024 (λ name d. IsName name × IsDeclaration d) (get (codes "playbook_variables") t) h.0)

key-word : (members : List (List ℕ × Data)) (n : ℕ) (step : Step) → All (λ (m : List ℕ × Data). IsId m.0 × IsObject m.1) members → slice_get (map step_of members) n ≡ Some step → IsWord step.key
key-word [] n step all at = absurd (none-some step at)
key-word (m ∷ members) zero step all at = subst IsWord (ap (λ (s : Step). s.key) (inner (step_of m) step at)) (id-word m.0 (all 0 m (omega arith)).0)
key-word (m ∷ members) (suc n) step all at = key-word members n step (λ k d lt. all (suc k) d (omega (arith, lt))) at

names-words : (members : List (List ℕ × Data)) (scope : ℕ) (written : List Write) → All (λ (m : List ℕ × Data). IsName m.0 × IsDeclaration m.1) members → NamesAreWords (texts_now written scope (map var_of members))
names-words [] scope written all = tt
names-words (m ∷ members) scope written all = (name-word m.0 (all 0 m (omega arith)).0, names-words members scope written (λ k d lt. all (suc k) d (omega (arith, lt))))

-- the scope of the first playbook stays
scopes-more : (edits : List Edit) (s : State) → (more : List Scope) × ((all_edited edits s).scopes ≡ s.scopes ++ more)
scopes-more [] s = ([], sym (append-nil s.scopes))
scopes-more (e ∷ es) s = go e (scopes-more es (edited e s))
  where
    go : (e : Edit) → (more : List Scope) × ((all_edited es (edited e s)).scopes ≡ (edited e s).scopes ++ more) → (more : List Scope) × ((all_edited es (edited e s)).scopes ≡ s.scopes ++ more)
    go (opens parent vars) h = (record { parent = parent; vars = vars } ∷ h.0, h.1 ∙ append_assoc s.scopes (record { parent = parent; vars = vars } ∷ []) h.0)
    go (writes scope name text) h = h
    go (makes task) h = h
    go (moves n task) h = h
    go (issues issue) h = h
    go (closes n phase) h = h
    go upgrades h = h

-- the first scope declares these
record DeclaresFirst (vars : List Var) (s : State) : Type 0 where
  first : Scope
  others : List Scope
  are : s.scopes ≡ first ∷ others
  vars_are : first.vars ≡ vars

first-stays : (vars : List Var) (edits : List Edit) (s : State) (moment : ℕ) → DeclaresFirst vars s → DeclaresFirst vars (after moment edits s)
first-stays vars edits s moment h =
    let more = scopes-more edits s in
    record { first = h.first; others = h.others ++ more.0; are = more.1 ∙ ap (λ (l : List Scope). l ++ more.0) h.are; vars_are = h.vars_are }

first-goes-on : (vars : List Var) (s new : State) (records : List Record) → DeclaresFirst vars s → GoesOn s records new → DeclaresFirst vars new
first-goes-on vars s new [] h g = subst (DeclaresFirst vars) g h
first-goes-on vars s new (r ∷ records) h g =
    first-goes-on vars g.0 new records (subst (DeclaresFirst vars) (sym g.1.new_is) (first-stays vars g.1.edits s (moment_of r) h)) g.2

begins-first : (given : Given) (run now : ℕ) (b : Book) (first : State) → slice_get given.books 0 ≡ Some b → begun given run now ≡ Some first → DeclaresFirst b.variables first
begins-first given run now b first at begins = go (slice_get given.books 0) at begins
  where
    go : (o : Option Book) → o ≡ Some b
        → option_map (λ edits. after now edits (blank given run)) (option_map (λ book. opens None book.variables ∷ (map (λ bound. writes 0 bound.0 bound.1) given.variables ++ makes (first_task given now book) ∷ [])) o) ≡ Some first
        → DeclaresFirst b.variables first
    go None e f = absurd (none-some b e)
    go (Some book) e f =
        let edits : List Edit = map (λ bound. writes 0 bound.0 bound.1) given.variables ++ makes (first_task given now book) ∷ [] in
        let s : State = edited (opens None book.variables) (blank given run) in
        subst (DeclaresFirst b.variables) (inner (after now (opens None book.variables ∷ edits) (blank given run)) first f)
        (first-stays b.variables edits s now (record { first = record { parent = None; vars = book.variables }; others = []; are = refl; vars_are = ap (λ (x : Book). x.variables) (inner book b e) }))

first-names : (vars : List Var) (s : State) → DeclaresFirst vars s → unwrap_or (slice_get (texts_from 0 s.scopes s.writes) 0) [] ≡ texts_now s.writes 0 vars
first-names vars s h = ap (λ (l : List Scope). unwrap_or (slice_get (texts_from 0 l s.writes) 0) []) h.are ∙ ap (texts_now s.writes 0) h.vars_are

module _ (given : Given) (trees : List Data) (books : given.books ≡ map book trees) (some : 1 ≤ length trees) (accepted : IsAccepted trees Run) where
  shaped : (n : ℕ) (t : Data) (rule : ShapeRule) → slice_get trees n ≡ Some t → KeepsOfBook rule t
  shaped n t rule at = subst (λ (o : Option Data). IfSome o (λ t. KeepsOfBook rule t)) at (accepted (of_shape n (record { step = None; rule = rule })))

  key-at : (b n : ℕ) (bk : Book) (step : Step) → slice_get given.books b ≡ Some bk → slice_get bk.steps n ≡ Some step → IsWord step.key
  key-at b n bk step at there =
      let found = mapped_at book trees b bk (ap (λ (bs : List Book). slice_get bs b) (sym books) ∙ at) in
      key-word (workflow found.x) n step (workflow-keys found.x (shaped b found.x k4 found.at)) (sym (ap (λ (x : Book). slice_get x.steps n) found.is) ∙ there)

  keys-words : (s : Shown) → s.given ≡ given → KeysAreWords s
  keys-words s is t = subst (λ (g : Given). IsWord (unwrap_or (option_map (λ step. step.key) (option_and_then (λ task. step_at g task.book task.step) (slice_get s.lists.tasks t))) [])) (sym is) (by (slice_get s.lists.tasks t))
    where
      of-step : (b n : ℕ) (bk : Book) (o : Option Step) → slice_get given.books b ≡ Some bk → slice_get bk.steps n ≡ o → IsWord (unwrap_or (option_map (λ step. step.key) o) [])
      of-step b n bk None at e = refl
      of-step b n bk (Some step) at e = key-at b n bk step at e

      of-book : (b n : ℕ) (o : Option Book) → slice_get given.books b ≡ o → IsWord (unwrap_or (option_map (λ step. step.key) (option_and_then (λ x. slice_get x.steps n) o)) [])
      of-book b n None e = refl
      of-book b n (Some bk) e = of-step b n bk (slice_get bk.steps n) e refl

      by : (o : Option Task) → IsWord (unwrap_or (option_map (λ step. step.key) (option_and_then (λ task. step_at given task.book task.step) o)) [])
      by None = refl
      by (Some task) = of-book task.book task.step (slice_get given.books task.book) refl

  names-then : (run : ℕ) (records : List Record) (state : State) → Leads given run records state → NamesAreWords (unwrap_or (slice_get (shown state).lists.texts 0) [])
  names-then run records state h = go trees refl
    where
      go : (ts : List Data) → ts ≡ trees → NamesAreWords (unwrap_or (slice_get (shown state).lists.texts 0) [])
      go [] e = absurd (omega (arith, ap (λ (l : List Data). length l) e, some))
      go (t ∷ ts) e =
          let at : slice_get given.books 0 ≡ Some (book t) = ap (λ (bs : List Book). slice_get bs 0) (books ∙ ap (map book) (sym e)) in
          let vars : List Var = map var_of (members_at (codes "playbook_variables") t) in
          let declares : DeclaresFirst vars state = first-goes-on vars h.first state h.others (begins-first given run h.now (book t) h.first at h.begins) h.goes_on in
          subst NamesAreWords (sym (first-names vars state declares))
          (names-words (members_at (codes "playbook_variables") t) 0 state.writes (variable-names t (shaped 0 t k3 (ap (λ (l : List Data). slice_get l 0) (sym e)))))

-- ---- a report

pub run-others : (entries : List (List ℕ)) (text : Text) → Reports entries text → AreOtherLines (lines_of text)
run-others entries text (inl h) = subst (λ (t : Text). AreOtherLines (lines_of t)) (sym h.1) (clean-others no_run (clean-line 110 (codes "o") (codes "run" ∷ []) refl refl (refl, tt)))
run-others entries text (inr h) = subst (λ (t : Text). AreOtherLines (lines_of t)) (sym h.is) (clean-others (report h.seen (length h.records)) (report-clean h.seen (length h.records) keys names))
  where
    accepted : Accepted AreAccepted FitsKind h.seen.given.texts h.seen.given.bind h.seen.given
    accepted = h.tells.begins.begin.accepted

    books : h.seen.given.books ≡ map book accepted.trees
    books = ap (λ (g : Given). g.books) accepted.given_is

    keys : KeysAreWords h.seen
    keys = keys-words h.seen.given accepted.trees books accepted.accepted.0 accepted.accepted.1 h.seen refl

    names : NamesAreWords (unwrap_or (slice_get h.seen.lists.texts 0) [])
    names = subst (λ (s : Shown). NamesAreWords (unwrap_or (slice_get s.lists.texts 0) [])) (sym h.tells.shows.is)
        (names-then h.seen.given accepted.trees books accepted.accepted.0 accepted.accepted.1 h.seen.run h.records h.tells.shows.state h.tells.shows.leads)
