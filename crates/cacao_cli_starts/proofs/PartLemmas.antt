-- The texts of a run, and what they come to.
use Rattle.std.proofs.Common.{zero, suc, ◌≡◌, ◌≢◌, ◌⊎◌, inl, inr, ◌∙◌, refl, sym, ap, ap₂, subst, arith, ℕ, ◌<◌, ◌≤◌, Bool, true, false, List, [], ◌∷◌, ◌++◌, length, map, take, drop, Option, Some, None, Result, Ok, Err, append-nil}
use Rattle.std.specs.Prelude.{IfSome, IsSome, is_some, option_to_list, slice_get, if◌then◌else◌}
use Rattle.std.proofs.lemmas.List.{map-append}
use Rattle.std.proofs.lemmas.Option.{none-some}
use Rattle.serde_json.specs.Data.{Data}
use Rattle.cacao_json.specs.Reading.{tree}
use Rattle.cacao_json.specs.Counts.{colons}
use Rattle.cacao_json.specs.Refusals.{answer, if_read}
use Rattle.serde_json.specs.Read.{read}
use Rattle.json.specs.Json.{value}
use Rattle.json.specs.Lex.{lex, punctuate}
use Rattle.std.proofs.lemmas.Str.{IsUtf8-nil, is_utf8-from_IsUtf8}
use Rattle.std.proofs.lemmas.Bool.{false≢true}
use Rattle.cacao_json.specs.declared.error.JsonError.{JsonError}
use Rattle.cacao_json.specs.declared.error.JsonError.TheVariants.{NotJson}
use Rattle.cacao_site.specs.View.{SiteView}
use Rattle.flow_core.specs.SetupReading.{AreTreesOf, IsFirstUnreadable, texts_read}
use Rattle.flow_core.specs.Setups.{AreAccepted}
use Rattle.flow_core_rules.specs.Accepted.{Accepted}
use Rattle.flow_core_rules.specs.Bindings.{bindings_of}
use Rattle.flow_core_rules.specs.Givens.{Given}
use Rattle.flow_engine_answers.specs.declared.answers.OperatorAnswer.{OperatorAnswer}
use Rattle.cacao_check.specs.Fits.{FitsKind}
use Rattle.cacao_cli_session.specs.Holding.{AreAnswers}
use Rattle.cacao_cli_words.specs.Requests.{RunRequest}
use Rattle.cacao_cli_words.specs.Words.{Text}
use Rattle.cacao_cli_ends.specs.Asked.{runs}
use Rattle.cacao_cli_ends.specs.Ends.{End, no_memory, not_readable, past}
use Rattle.cacao_cli_status_laws.specs.Ended.{NoSession, PerformedBy, PerformsBy}
use Rattle.cacao_cli_ends.specs.Files.{NamedText, ReadsTo, ShelfCall, book_file, has_too_many, item_then, listed, run_names}
use Rattle.cacao_cli_starts.specs.ReadyRuns.{IsReady}
use Rattle.cacao_cli_starts.specs.Starting.{AreJudged, BeginsSo, IsBegun, IsStartFrom, IsUnbound, IsUnread, IsUnreadableEnd, HasBind}
use Rattle.cacao_cli_ends.specs.Work.{Start, Work, behind_books, bind_text, book_texts, bytes_of, ends, first_if, or_end, rest_if, start_of, starts, tree_of, tree_or_end, trees_of, trees_wanted, work_on}
use Rattle.cacao_cli_ends.specs.declared.limit.Limit.TheVariants.{BookCount}
use Rattle.cacao_cli_starts.specs.declared.run_texts.RunTexts.{RunTexts}
use Rattle.cacao_cli_ends.proofs.TreeCases.{Treeless, TreesCase, all_trees, one_treeless, trees_case}
use Rattle.cacao_cli_looks.proofs.PerformLemmas.{nat_lt-no, nat_lt-yes, says-end}
use Rattle.cacao_cli_ends.proofs.ReadLemmas.{Read, none-read}
use Rattle.cacao_cli_ends.proofs.TreeLemmas.{TreeCase, has_tree, treeless, tree_case}

-- ---- the texts that want a tree

-- an empty text of bindings is not read with the playbooks
abbrev unless_empty : Text → Text → List NamedText
unless_empty name [] = []
unless_empty name (b ∷ bytes) = record { name = name; bytes = b ∷ bytes } ∷ []

abbrev bind_read : Option NamedText → List NamedText
bind_read None = []
bind_read (Some text) = unless_empty text.name text.bytes

read-as : (books : List NamedText) (bind : Option NamedText) → texts_read (map (λ text. text.bytes) books) (bytes_of bind) ≡ map (λ text. text.bytes) (books ++ bind_read bind)
read-as books None = ap (map (λ (text : NamedText). text.bytes)) (sym (append-nil books))
read-as books (Some text) = go text.bytes
  where
    go : (bytes : Text) → texts_read (map (λ text. text.bytes) books) bytes ≡ map (λ text. text.bytes) (books ++ unless_empty text.name bytes)
    go [] = ap (map (λ (text : NamedText). text.bytes)) (sym (append-nil books))
    go (b ∷ bytes) = sym (map-append (λ (text : NamedText). text.bytes) books (record { name = text.name; bytes = b ∷ bytes } ∷ []))

-- ---- the first text without a tree

inner : {A : Type 0} (x y : A) → Some x ≡ Some y → x ≡ y
inner x y e = cc

record IsUnreadAt (texts : List NamedText) (file : ℕ) (error : JsonError) : Type 0 where
  text : NamedText
  there : slice_get texts file ≡ Some text
  ends : (end : End) → Err end ≡ tree_or_end text.name (Err error) → trees_of texts ≡ Err end

unread-at : (texts : List NamedText) (file : ℕ) (error : JsonError) (bytes : Text) → slice_get (map (λ text. text.bytes) texts) file ≡ Some bytes → answer bytes ≡ Err error
    → ((k : ℕ) → k < file → IfSome (slice_get (map (λ text. text.bytes) texts) k) (λ before. IsSome (tree before))) → IsUnreadAt texts file error
unread-at [] file error bytes at refused earlier = absurd (none-some bytes at)
unread-at (x ∷ xs) zero error bytes at refused earlier = record {
  text = x;
  there = refl;
  ends = λ end e. ap (λ (r : Result Data End). item_then r (trees_of xs)) (ap (λ (b : Text). tree_or_end x.name (answer b)) (inner x.bytes bytes at) ∙ ap (tree_or_end x.name) refused ∙ sym e);
}
unread-at (x ∷ xs) (suc n) error bytes at refused earlier = go (tree_case x.name x.bytes) (unread-at xs n error bytes at refused (λ k lt. earlier (suc k) (omega (arith, lt))))
  where
    go : TreeCase x.name x.bytes → IsUnreadAt xs n error → IsUnreadAt (x ∷ xs) (suc n) error
    go (has_tree root has is) h = record {
      text = h.text;
      there = h.there;
      ends = λ end e. ap (λ (r : Result Data End). item_then r (trees_of xs)) is ∙ ap (item_then (Ok root)) (h.ends end e);
    }
    go (treeless reason none is) h = absurd (false≢true (subst IsSome none (earlier 0 (omega arith))))

-- the end for the first text without a tree stays, where others stand behind
err-more : (xs ys : List NamedText) (end : End) → trees_of xs ≡ Err end → trees_of (xs ++ ys) ≡ Err end
err-more [] ys end e = absurd (cc)
err-more (x ∷ xs) ys end e = go (tree_of x) (trees_of xs) (trees_of (xs ++ ys)) e (λ end f. err-more xs ys end f)
  where
    go : (r : Result Data End) (s t : Result (List Data) End) → item_then r s ≡ Err end → ((end : End) → s ≡ Err end → t ≡ Err end) → item_then r t ≡ Err end
    go (Err other) s t e h = e
    go (Ok root) (Err other) t e h = ap (item_then (Ok root)) (h other refl) ∙ e
    go (Ok root) (Ok roots) t e h = absurd (cc)

bind-more : (books : List NamedText) (name bytes : Text) (end : End) → trees_of (books ++ unless_empty name bytes) ≡ Err end → trees_of (books ++ record { name = name; bytes = bytes } ∷ []) ≡ Err end
bind-more books name [] end e = err-more books (record { name = name; bytes = [] } ∷ []) end (ap trees_of (sym (append-nil books)) ∙ e)
bind-more books name (b ∷ bytes) end e = e

read-more : (books : List NamedText) (bind : Option NamedText) (end : End) → trees_of (books ++ bind_read bind) ≡ Err end → trees_of (books ++ option_to_list bind) ≡ Err end
read-more books None end e = e
read-more books (Some text) end e = bind-more books text.name text.bytes end e

-- the end for a text without a tree, where all before it have one
last-treeless : (xs : List NamedText) (text : NamedText) (end : End) → (Treeless xs → ⊥) → tree_of text ≡ Err end → trees_of (xs ++ text ∷ []) ≡ Err end
last-treeless [] text end all e = ap (λ (r : Result Data End). item_then r (Ok [])) e
last-treeless (x ∷ xs) text end all e = go (tree_case x.name x.bytes) (last-treeless xs text end (λ t. all (inr t)) e)
  where
    go : TreeCase x.name x.bytes → trees_of (xs ++ text ∷ []) ≡ Err end → trees_of ((x ∷ xs) ++ text ∷ []) ≡ Err end
    go (has_tree root has is) rest = ap (λ (r : Result Data End). item_then r (trees_of (xs ++ text ∷ []))) is ∙ ap (item_then (Ok root)) rest
    go (treeless reason none is) rest = absurd (all (inl none))

-- ---- names

-- each text has the name of its file
abbrev pub the-name : NamedText → Text
the-name text = text.name

same-head : (x y : Text) (xs ys : List Text) → x ∷ xs ≡ y ∷ ys → x ≡ y
same-head x y xs ys e = cc

same-tail : (x y : Text) (xs ys : List Text) → x ∷ xs ≡ y ∷ ys → xs ≡ ys
same-tail x y xs ys e = cc

no-nil : (y : Text) (ys : List Text) → [] ≡ y ∷ ys → ⊥
no-nil y ys e = cc

name-of-bind : (name bytes : Text) (file : ℕ) (t : NamedText) → slice_get (unless_empty name bytes) file ≡ Some t → slice_get (name ∷ []) file ≡ Some t.name
name-of-bind name [] file t e = absurd (none-some t e)
name-of-bind name (b ∷ bytes) zero t e = ap (λ (x : NamedText). Some x.name) (inner (record { name = name; bytes = b ∷ bytes }) t e)
name-of-bind name (b ∷ bytes) (suc n) t e = absurd (none-some t e)

names-at : (books : List Text) (bind answers : Option Text) (texts : List NamedText) → map the-name texts ≡ books ++ (listed bind ++ listed answers) → (file : ℕ) (t : NamedText)
    → slice_get (take (length books) texts ++ bind_read (first_if bind (drop (length books) texts))) file ≡ Some t → slice_get (books ++ listed bind) file ≡ Some t.name
names-at [] None answers texts names file t e = absurd (none-some t e)
names-at [] (Some name) answers [] names file t e = absurd (none-some t e)
names-at [] (Some name) answers (x ∷ xs) names file t e =
    subst (λ (n : Text). slice_get (n ∷ []) file ≡ Some t.name) (same-head x.name name (map the-name xs) (listed answers) names) (name-of-bind x.name x.bytes file t e)
names-at (b ∷ books) bind answers [] names file t e = absurd (no-nil b (books ++ (listed bind ++ listed answers)) names)
names-at (b ∷ books) bind answers (x ∷ xs) names zero t e =
    ap (λ (n : Text). Some n) (sym (same-head x.name b (map the-name xs) (books ++ (listed bind ++ listed answers)) names)) ∙ ap (λ (y : NamedText). Some y.name) (inner x t e)
names-at (b ∷ books) bind answers (x ∷ xs) names (suc n) t e = names-at books bind answers xs (same-tail x.name b (map the-name xs) (books ++ (listed bind ++ listed answers)) names) n t e

-- the text with a number has one name
one-name : (books : List Text) (bind : Option Text) (file : ℕ) (a b : Text) → slice_get (books ++ listed bind) file ≡ Some a
    → (slice_get books file ≡ Some b) ⊎ ((length books ≤ file) × (bind ≡ Some b)) → a ≡ b
one-name [] None file a b e h = absurd (none-some a e)
one-name [] (Some n) zero a b e (inl f) = absurd (none-some b f)
one-name [] (Some n) zero a b e (inr f) = sym (inner n a e) ∙ inner n b f.1
one-name [] (Some n) (suc k) a b e h = absurd (none-some a e)
one-name (x ∷ books) bind zero a b e (inl f) = sym (inner x a e) ∙ inner x b f
one-name (x ∷ books) bind zero a b e (inr f) = absurd (omega (arith, f.0))
one-name (x ∷ books) bind (suc k) a b e (inl f) = one-name books bind k a b e (inl f)
one-name (x ∷ books) bind (suc k) a b e (inr f) = one-name books bind k a b e (inr (omega (arith, f.0), f.1))

-- ---- all have trees

has-no-treeless : (texts : List NamedText) (trees : List Data) → map tree (map (λ text. text.bytes) texts) ≡ map (λ t. Some t) trees → Treeless texts → ⊥
has-no-treeless [] trees e h = h
has-no-treeless (x ∷ xs) [] e h = absurd (cc)
has-no-treeless (x ∷ xs) (t ∷ trees) e (inl none) = none-some t (sym none ∙ first)
  where
    first : tree x.bytes ≡ Some t
    first = cc
has-no-treeless (x ∷ xs) (t ∷ trees) e (inr h) = has-no-treeless xs trees rest h
  where
    rest : map tree (map (λ text. text.bytes) xs) ≡ map (λ t. Some t) trees
    rest = cc

treeless-either : (xs ys : List NamedText) → Treeless (xs ++ ys) → Treeless xs ⊎ Treeless ys
treeless-either [] ys h = inr h
treeless-either (x ∷ xs) ys (inl none) = inl (inl none)
treeless-either (x ∷ xs) ys (inr h) = go (treeless-either xs ys h)
  where
    go : Treeless xs ⊎ Treeless ys → Treeless (x ∷ xs) ⊎ Treeless ys
    go (inl a) = inl (inr a)
    go (inr b) = inr b

bind-has-tree : (bind : Option NamedText) → IsSome (bindings_of (bytes_of bind)) → ((text : NamedText) → bind ≡ Some text → text.bytes ≢ []) → Treeless (option_to_list bind) → ⊥
bind-has-tree None some there h = h
bind-has-tree (Some text) some there (inr h) = h
bind-has-tree (Some text) some there (inl none) = go text.bytes (there text refl) some none
  where
    go : (bytes : Text) → bytes ≢ [] → IsSome (bindings_of bytes) → tree bytes ≡ None → ⊥
    go [] there some none = there refl
    go (b ∷ bytes) there some none = false≢true (subst IsSome none some)

-- a text of bindings is there where its file is named
named-bind : (bind : Option Text) (list : List NamedText) (text : NamedText) → first_if bind list ≡ Some text → (name : Text) × (bind ≡ Some name)
named-bind None list text e = absurd (none-some text e)
named-bind (Some name) list text e = (name, refl)

bind-there : (books : List Text) (name : Text) (answers : Option Text) (texts : List NamedText) → map the-name texts ≡ books ++ (name ∷ listed answers)
    → (text : NamedText) × (first_if (Some name) (drop (length books) texts) ≡ Some text) × (text.name ≡ name)
bind-there [] name answers [] names = absurd (no-nil name (listed answers) names)
bind-there [] name answers (x ∷ xs) names = (x, refl, same-head x.name name (map the-name xs) (listed answers) names)
bind-there (b ∷ books) name answers [] names = absurd (no-nil b (books ++ (name ∷ listed answers)) names)
bind-there (b ∷ books) name answers (x ∷ xs) names = bind-there books name answers xs (same-tail x.name b (map the-name xs) (books ++ (name ∷ listed answers)) names)

-- ---- what a start comes to

-- no bytes are no JSON text
empty-read : read [] ≡ None
unfolding value punctuate lex
empty-read = refl

empty-answer : answer [] ≡ Err NotJson
empty-answer = ap (λ (b : Bool). if_read (colons []) (if b then read [] else None)) (is_utf8-from_IsUtf8 [] IsUtf8-nil) ∙ ap (if_read (colons [])) empty-read

abbrev Judged : RunRequest → List NamedText → Result (List Data) End → Work
Judged wanted texts r = or_end r (λ roots. starts (start_of wanted texts))

abbrev pub RunWork : RunRequest → List NamedText → Work
RunWork wanted texts = or_end (trees_of (trees_wanted wanted texts)) (λ roots. starts (start_of wanted texts))

at-trees : (wanted : RunRequest) (texts : List NamedText) (r : Result (List Data) End) (old new : SiteView) (last : End) → trees_of (trees_wanted wanted texts) ≡ r → PerformsBy NoSession (Judged wanted texts r) old new last
    → PerformsBy NoSession (RunWork wanted texts) old new last
at-trees wanted texts r old new last is h = subst (λ (x : Result (List Data) End). PerformsBy NoSession (Judged wanted texts x) old new last) (sym is) h

pub run-memory : (wanted : RunRequest) (texts : List NamedText) (site : SiteView) → PerformsBy NoSession (RunWork wanted texts) site site no_memory
run-memory wanted texts site = go (trees_case (trees_wanted wanted texts))
  where
    go : TreesCase (trees_wanted wanted texts) → PerformsBy NoSession (RunWork wanted texts) site site no_memory
    go (all_trees roots r e) = at-trees wanted texts (Ok roots) site site no_memory e (inr (inr (inr (inr (record { same = refl; ends = refl })))))
    go (one_treeless name reason r e) = at-trees wanted texts (Err (not_readable name reason)) site site no_memory e (inr (inr (record { same = refl; no_fault = refl; ends = refl })))

memory-as : (wanted : RunRequest) (texts : List NamedText) (old new : SiteView) (last : End) → new ≡ old → last ≡ no_memory → PerformsBy NoSession (RunWork wanted texts) old new last
memory-as wanted texts old new last same is =
    subst (λ (e : End). PerformsBy NoSession (RunWork wanted texts) old new e) (sym is) (subst (λ (s : SiteView). PerformsBy NoSession (RunWork wanted texts) old s no_memory) (sym same) (run-memory wanted texts old))

is-some : {A : Type 0} (o : Option A) (x : A) → o ≡ Some x → IsSome o
is-some {A} o x e = subst (λ (o : Option A). IsSome o) (sym e) refl

module _ (wanted : RunRequest) (texts : List NamedText) (parts : RunTexts) (is : IsStartFrom wanted texts parts) (names : map the-name texts ≡ run_names wanted) where
  books-are : parts.books.items ≡ map (λ text. text.bytes) (book_texts wanted texts)
  books-are = ap (λ (s : Start). s.books) is

  bind-is : parts.bind ≡ bytes_of (bind_text wanted texts)
  bind-is = ap (λ (s : Start). s.bind) is

  read-are : texts_read parts.books.items parts.bind ≡ map (λ text. text.bytes) (book_texts wanted texts ++ bind_read (bind_text wanted texts))
  read-are = ap₂ (λ (xs : List Text) (b : Text). texts_read xs b) books-are bind-is ∙ read-as (book_texts wanted texts) (bind_text wanted texts)

  unread : (old new : SiteView) (last : End) → IsUnread wanted parts old new last → PerformsBy NoSession (RunWork wanted texts) old new last
  unread old new last h = go h.ends
    where
      first : IsFirstUnreadable (map (λ text. text.bytes) (book_texts wanted texts ++ bind_read (bind_text wanted texts))) h.file h.error
      first = subst (λ (xs : List Text). IsFirstUnreadable xs h.file h.error) read-are h.first

      at : IsUnreadAt (book_texts wanted texts ++ bind_read (bind_text wanted texts)) h.file h.error
      at = unread-at (book_texts wanted texts ++ bind_read (bind_text wanted texts)) h.file h.error first.text first.text_is first.refused first.earlier

      go : IsUnreadableEnd wanted h.file h.error last → PerformsBy NoSession (RunWork wanted texts) old new last
      go (name, there, stops) =
          let same : at.text.name ≡ name = one-name wanted.books wanted.bind h.file at.text.name name (names-at wanted.books wanted.bind wanted.answers texts names h.file at.text at.there) there in
          at-trees wanted texts (Err last) old new last (read-more (book_texts wanted texts) (bind_text wanted texts) last (at.ends last (stops ∙ ap (λ (n : Text). tree_or_end n (Err h.error)) (sym same))))
          (subst (λ (s : SiteView). PerformsBy NoSession (Judged wanted texts (Err last)) old s last) (sym h.same) (says-end last old))

  books-trees : (trees : List Data) → AreTreesOf parts.books.items trees → Treeless (book_texts wanted texts) → ⊥
  books-trees trees are t = has-no-treeless (book_texts wanted texts) trees (subst (λ (xs : List Text). AreTreesOf xs trees) books-are are) t

  -- an empty file of bindings
  unbound : (old new : SiteView) (last : End) → IsUnbound wanted parts old new last → PerformsBy NoSession (RunWork wanted texts) old new last
  unbound old new last h = go wanted.bind h.blank.named bind-is names (λ e. at-trees wanted texts (Err last) old new last e
      (subst (λ (s : SiteView). PerformsBy NoSession (Judged wanted texts (Err last)) old s last) (sym h.same) (says-end last old)))
    where
      go : (bind : Option Text) → bind ≡ Some h.blank.name → parts.bind ≡ bytes_of (first_if bind (behind_books wanted texts)) → map the-name texts ≡ wanted.books ++ (listed bind ++ listed wanted.answers)
          → (trees_of (book_texts wanted texts ++ option_to_list (first_if bind (behind_books wanted texts))) ≡ Err last → PerformsBy NoSession (RunWork wanted texts) old new last) → PerformsBy NoSession (RunWork wanted texts) old new last
      go None e is names on = absurd (none-some h.blank.name e)
      go (Some name) e is names on = on (by (bind-there wanted.books name wanted.answers texts names))
        where
          by : (text : NamedText) × (first_if (Some name) (drop (length wanted.books) texts) ≡ Some text) × (text.name ≡ name)
              → trees_of (book_texts wanted texts ++ option_to_list (first_if (Some name) (behind_books wanted texts))) ≡ Err last
          by (text, there, called) =
              let empty : text.bytes ≡ [] = sym (is ∙ ap bytes_of there) ∙ h.blank.blank in
              let end : tree_of text ≡ Err last =
              ap (λ (b : Text). tree_or_end text.name (answer b)) empty ∙ ap (λ (n : Text). tree_or_end n (answer [])) (called ∙ inner name h.blank.name e) ∙ ap (tree_or_end h.blank.name) empty-answer ∙ ap (λ (x : End). Err x) (sym h.blank.ends) in
              ap (λ (o : Option NamedText). trees_of (book_texts wanted texts ++ option_to_list o)) there
              ∙ last-treeless (book_texts wanted texts) text last (books-trees h.trees h.are) end

  -- no text that wants a tree is without one
  all-trees : (trees : List Data) → AreTreesOf parts.books.items trees → IsSome (bindings_of parts.bind) → HasBind wanted parts → Treeless (trees_wanted wanted texts) → ⊥
  all-trees trees are some bind t = by (treeless-either (book_texts wanted texts) (option_to_list (bind_text wanted texts)) t)
    where
      there : (text : NamedText) → bind_text wanted texts ≡ Some text → text.bytes ≢ []
      there text e empty = let named = named-bind wanted.bind (behind_books wanted texts) text e in bind named.0 named.1 (bind-is ∙ ap bytes_of e ∙ empty)

      by : Treeless (book_texts wanted texts) ⊎ Treeless (option_to_list (bind_text wanted texts)) → ⊥
      by (inl a) = books-trees trees are a
      by (inr b) = bind-has-tree (bind_text wanted texts) (subst (λ (bytes : Text). IsSome (bindings_of bytes)) bind-is some) there b

  begun : (old new : SiteView) (last : End) → IsBegun wanted parts old new last → PerformsBy NoSession (RunWork wanted texts) old new last
  begun old new last h = go (trees_case (trees_wanted wanted texts))
    where
      go : TreesCase (trees_wanted wanted texts) → PerformsBy NoSession (RunWork wanted texts) old new last
      go (all_trees roots r e) = at-trees wanted texts (Ok roots) old new last e (subst (λ (s : Start). PerformsBy NoSession (starts s) old new last) is h.performs)
      go (one_treeless name reason t e) = absurd (all-trees h.trees h.are h.bindings h.bind t)

  -- what is judged is a start
  pub judged-trees : (given : Given) (answers : List OperatorAnswer) → AreJudged wanted parts given answers → (roots : List Data) × (trees_of (trees_wanted wanted texts) ≡ Ok roots)
  judged-trees given answers h = go (trees_case (trees_wanted wanted texts))
    where
      go : TreesCase (trees_wanted wanted texts) → (roots : List Data) × (trees_of (trees_wanted wanted texts) ≡ Ok roots)
      go (all_trees roots r e) = (roots, e)
      go (one_treeless name reason t e) =
          absurd (all-trees h.accepted.trees h.accepted.trees_are (is-some (bindings_of parts.bind) h.accepted.bindings h.accepted.bindings_are) h.bind t)

  pub judged-accepted : (given : Given) (answers : List OperatorAnswer) → AreJudged wanted parts given answers → Accepted AreAccepted FitsKind (start_of wanted texts).books (start_of wanted texts).bind given
  judged-accepted given answers h = subst (λ (s : Start). Accepted AreAccepted FitsKind s.books s.bind given) is h.accepted

  pub judged-answers : (given : Given) (answers : List OperatorAnswer) → AreJudged wanted parts given answers → AreAnswers (start_of wanted texts) answers
  judged-answers given answers h = subst (λ (s : Start). AreAnswers s answers) is h.answers_are

  pub run-begins : (old new : SiteView) (last : End) → BeginsSo wanted parts old new last → PerformsBy NoSession (RunWork wanted texts) old new last
  run-begins old new last (inl h) = unread old new last h
  run-begins old new last (inr (inl h)) = unbound old new last h
  run-begins old new last (inr (inr (inl h))) = begun old new last h
  run-begins old new last (inr (inr (inr h))) = memory-as wanted texts old new last h.same h.ends

-- ---- a call of `run`

pub run-many : (wanted : RunRequest) (shelf : ShelfCall) (site : SiteView) → 16 < length wanted.books → shelf.reads_after ≡ shelf.reads_before → shelf.after ≡ shelf.before
    → PerformedBy NoSession (Some (runs wanted)) shelf site site (past BookCount)
run-many wanted shelf site lt same steady = record {
  read = Ok [];
  reads = subst (λ (b : Bool). ReadsTo shelf (if b then [] else map book_file (run_names wanted)) (Ok [])) (sym many) (none-read shelf same steady);
  performs = subst (λ (b : Bool). PerformsBy NoSession (if b then ends [] (past BookCount) else or_end (Ok []) (work_on (runs wanted))) site site (past BookCount)) (sym many) (says-end (past BookCount) site);
}
  where
    many : has_too_many (runs wanted) ≡ true
    many = nat_lt-yes (length wanted.books) lt

pub run-read : (wanted : RunRequest) (shelf : ShelfCall) (old new : SiteView) (read : Read) (last : End) → length wanted.books ≤ 16 → ReadsTo shelf (map book_file (run_names wanted)) read
    → PerformsBy NoSession (or_end read (work_on (runs wanted))) old new last → PerformedBy NoSession (Some (runs wanted)) shelf old new last
run-read wanted shelf old new read last le reads performs = record {
  read = read;
  reads = subst (λ (b : Bool). ReadsTo shelf (if b then [] else map book_file (run_names wanted)) read) (sym few) reads;
  performs = subst (λ (b : Bool). PerformsBy NoSession (if b then ends [] (past BookCount) else or_end read (work_on (runs wanted))) old new last) (sym few) performs;
}
  where
    few : has_too_many (runs wanted) ≡ false
    few = nat_lt-no (length wanted.books) le

-- what is judged is ready
pub judged-ready : (wanted : RunRequest) (texts : List NamedText) (parts : RunTexts) → IsStartFrom wanted texts parts → map the-name texts ≡ run_names wanted → (shelf : ShelfCall) → length wanted.books ≤ 16
    → ReadsTo shelf (map book_file (run_names wanted)) (Ok texts) → (given : Given) (answers : List OperatorAnswer) → AreJudged wanted parts given answers → IsReady wanted shelf given answers
judged-ready wanted texts parts is names shelf le reads given answers h =
    let trees = judged-trees wanted texts parts is names given answers h in
    record {
      few = nat_lt-no (length wanted.books) le;
      texts = texts;
      reads = reads;
      roots = trees.0;
      trees = trees.1;
      accepted = judged-accepted wanted texts parts is names given answers h;
      are = judged-answers wanted texts parts is names given answers h;
    }

-- ---- the texts, split

split-books : (xs ys : List NamedText) → take (length xs) (xs ++ ys) ≡ xs
split-books [] ys = refl
split-books (x ∷ xs) ys = ap (λ (l : List NamedText). x ∷ l) (split-books xs ys)

split-rest : (xs ys : List NamedText) → drop (length xs) (xs ++ ys) ≡ ys
split-rest [] ys = refl
split-rest (x ∷ xs) ys = split-rest xs ys

abbrev IsAs : Option Text → Option NamedText → Type 0
IsAs named found = is_some named ≡ is_some found

first-as : (named other : Option Text) (b a : Option NamedText) → IsAs named b → first_if named (option_to_list b ++ option_to_list a) ≡ b
first-as None other None a e = refl
first-as None other (Some x) a e = absurd (cc)
first-as (Some n) other None a e = absurd (cc)
first-as (Some n) other (Some x) a e = refl

rest-as : (named other : Option Text) (b a : Option NamedText) → IsAs named b → rest_if named (option_to_list b ++ option_to_list a) ≡ option_to_list a
rest-as None other None a e = refl
rest-as None other (Some x) a e = absurd (cc)
rest-as (Some n) other None a e = absurd (cc)
rest-as (Some n) other (Some x) a e = refl

last-as : (named : Option Text) (a : Option NamedText) → IsAs named a → first_if named (option_to_list a) ≡ a
last-as None None e = refl
last-as None (Some x) e = absurd (cc)
last-as (Some n) None e = absurd (cc)
last-as (Some n) (Some x) e = refl

pub start-split : (wanted : RunRequest) (books : List NamedText) (b a : Option NamedText) (texts : List NamedText) → length books ≡ length wanted.books → IsAs wanted.bind b → IsAs wanted.answers a
    → texts ≡ books ++ (option_to_list b ++ option_to_list a)
    → record { run = wanted.run; most = wanted.most; books = map (λ text. text.bytes) books; bind = bytes_of b; answers = a } ≡ start_of wanted texts
start-split wanted books b a texts many bind answers are =
    let front : book_texts wanted texts ≡ books = ap₂ (λ (n : ℕ) (l : List NamedText). take n l) (sym many) are ∙ split-books books (option_to_list b ++ option_to_list a) in
    let behind : drop (length wanted.books) texts ≡ option_to_list b ++ option_to_list a = ap₂ (λ (n : ℕ) (l : List NamedText). drop n l) (sym many) are ∙ split-rest books (option_to_list b ++ option_to_list a) in
    let is_bind : bind_text wanted texts ≡ b = ap (first_if wanted.bind) behind ∙ first-as wanted.bind wanted.answers b a bind in
    let is_answers : first_if wanted.answers (rest_if wanted.bind (drop (length wanted.books) texts)) ≡ a =
    ap (λ (l : List NamedText). first_if wanted.answers (rest_if wanted.bind l)) behind ∙ ap (first_if wanted.answers) (rest-as wanted.bind wanted.answers b a bind) ∙ last-as wanted.answers a answers in
    start-as wanted.run wanted.most (ap (map (λ (text : NamedText). text.bytes)) (sym front)) (ap bytes_of (sym is_bind)) (sym is_answers)
  where
    start-as : {xs ys : List Text} {c d : Text} {m n : Option NamedText} (run most : ℕ) → xs ≡ ys → c ≡ d → m ≡ n
        → ◌≡◌ {A = Start} (record { run = run; most = most; books = xs; bind = c; answers = m }) (record { run = run; most = most; books = ys; bind = d; answers = n })
    start-as run most p q r = cc
