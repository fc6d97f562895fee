-- How long the texts of parts are.
use Rattle.std.proofs.Common.{Bor, ◌≡◌, ℕ, suc, ◌+◌, ◌-◌, ◌≤◌, ◌==◌, ◌||◌, drop, Bool, true, false, cond, List, [], ◌∷◌, ◌++◌, length, map, codes, Option, Some, None, Ordering, Less, Equal, Greater, nat_cmp, refl, sym, ap, subst, ◌∙◌, length-append, arith}
use Rattle.std.specs.Prelude.{flat_map, option_map, if◌then◌else◌}
use Rattle.std.specs.Fmt.{decimal}
use Rattle.std.specs.Option.{option_map_or}
use Rattle.std.specs.Ordering.{match_ordering}
use Rattle.std.specs.Str.{bytes_eq}
use Rattle.std.specs.Cmp.Lexicographic.{slice_cmp}
use Rattle.std.proofs.lemmas.List.{drop_all}
use Rattle.std.proofs.lemmas.Slice.Eq.{bytes_eq-Decides}
use Rattle.serde_json.specs.Data.{Data, string, array, object, Items, no_items, item, Members, no_members, member}
use Rattle.serde_json.specs.Find.{get_member}
use Rattle.cacao_json.specs.Tree.{items_of, members_of, without}
use Rattle.cacao_json.specs.Profile.{AreSortedMembers}
use Rattle.cacao_text.specs.Canon.{escaped, string_text, in_order, after_commas, joined, member_text, canon, item_texts, named_texts}
use Rattle.cacao_text.proofs.Sorting.{total, total-in_order}
use Rattle.flow_core_rules.specs.State.{Lists}
use Rattle.flow_core_rules.specs.Filled.{filled, filled_items, filled_members, with_member, set_member, completed, command_id, addressed}
use Rattle.flow_core_texts.specs.declared.contents.Content.{Content}
use Rattle.flow_core_texts.specs.declared.contents.Entry.{Entry}
use Rattle.flow_core_texts.specs.declared.phrases.Reference.{Reference}
use Rattle.flow_core_values.specs.declared.sizing.Setting.{Setting}
use Rattle.flow_core_values.specs.declared.sizing.Setting.TheVariants as setting
use Rattle.flow_core_values.specs.Completed.{completed_args}
use Rattle.flow_core_texts.specs.Contents.{content_data, entry_data}
use Rattle.flow_core_texts.specs.Phrases.{spelled_by}
use Rattle.flow_core_values.specs.Sizes.{text_bytes, items_bytes, member_bytes, members_bytes, id_bytes}
use Rattle.flow_core_texts.proofs.MemberLemmas.{Lacks, IsOnce, with_itself, with_other, get_itself, get_other, without_itself, without_other, without_lacking, other_name, once_with, get_with, without_with, once_sorted}

-- ---- texts

flat_length : (a b : List ℕ) → length (flat_map escaped (a ++ b)) ≡ length (flat_map escaped a) + length (flat_map escaped b)
flat_length [] b = omega arith
flat_length (x ∷ a) b = omega (arith, length-append (escaped x) (flat_map escaped (a ++ b)), length-append (escaped x) (flat_map escaped a), flat_length a b)

pub text_bytes-append : (quoted : Bool) (a b : List ℕ) → text_bytes quoted (a ++ b) ≡ text_bytes quoted a + text_bytes quoted b
text_bytes-append true a b = flat_length a b
text_bytes-append false a b = length-append a b

string_length : (s : List ℕ) → length (string_text s) ≡ 2 + length (flat_map escaped s)
string_length s = omega (arith, length-append (flat_map escaped s) (34 ∷ []))

-- ---- references

module _ (f : List ℕ → List ℕ) (quoted : Bool) where
  abbrev reference_bytes : Reference → ℕ
  reference_bytes r = text_bytes quoted r.before + text_bytes quoted (f r.name)

  -- the bytes of references, each with what stands before it
  abbrev pub references_bytes : List Reference → ℕ
  references_bytes [] = 0
  references_bytes (r ∷ rs) = reference_bytes r + references_bytes rs

  none_spelled : (b : Bool) → text_bytes b [] ≡ 0
  none_spelled true = refl
  none_spelled false = refl

  spelled_bytes : (rs : List Reference) → text_bytes quoted (spelled_by f rs) ≡ references_bytes rs
  spelled_bytes [] = none_spelled quoted
  spelled_bytes (r ∷ rs) = omega (arith, text_bytes-append quoted (r.before ++ f r.name) (spelled_by f rs), text_bytes-append quoted r.before (f r.name), spelled_bytes rs)

  pub references_done : (rs : List Reference) (rest text last : List ℕ) (i left initial new : ℕ) → length rs ≤ i → last ≡ rest → text ≡ spelled_by f rs ++ rest
      → left - references_bytes (drop i rs) ≡ initial - references_bytes rs → new ≡ left - text_bytes quoted last → new ≡ initial - text_bytes quoted text
  references_done rs rest text last i left initial new past same is w e =
      omega (arith, w, e, ap (text_bytes quoted) same, ap references_bytes (drop_all i rs past), ap (text_bytes quoted) is, text_bytes-append quoted (spelled_by f rs) rest, spelled_bytes rs)

-- ---- arrays

brackets_some : (n : ℕ) → ◌≡◌ {A = ℕ} (if suc n == 0 then 2 else 1) 1
brackets_some n = let h : (suc n == 0) ≡ false = grind arith in ap (λ b. if b then 2 else 1) h

length-after : (ds : Items) → length (after_commas (item_texts ds)) ≡ items_bytes ds
length-after no_items = refl
length-after (item d ds) = omega (arith, length-append (canon d) (after_commas (item_texts ds)), length-after ds)

pub array_bytes : (d : Data) (ds : Items) → length (canon (array (item d ds))) ≡ 1 + items_bytes (item d ds)
array_bytes d ds = omega (arith, length-append (joined (item_texts (item d ds))) (93 ∷ []), length-append (canon d) (after_commas (item_texts ds)), length-after ds)

module _ (s : Lists) (scope : ℕ) where
  -- the bytes of filled trees
  abbrev pub trees_bytes : List Content → ℕ
  trees_bytes ts = items_bytes (filled_items s scope (items_of (map content_data ts)))

  pub trees_done : (ts : List Content) (i left initial : ℕ) → length ts ≤ i → left - trees_bytes (drop i ts) ≡ initial - trees_bytes ts → left ≡ initial - trees_bytes ts
  trees_done ts i left initial past e = omega (arith, e, ap trees_bytes (drop_all i ts past))

  -- and of filled members
  abbrev pub pairs_bytes : Setting → List Entry → ℕ
  pairs_bytes set ps = members_bytes set (filled_members s scope (members_of (map entry_data ps)))

  -- brackets and items
  array_taken : (ts : List Content) (left new : ℕ) → new ≡ left - (if length ts == 0 then 2 else 1) - trees_bytes ts → new ≡ left - length (canon (array (filled_items s scope (items_of (map content_data ts)))))
  array_taken [] left new e = omega (arith, e)
  array_taken (t ∷ ts) left new e =
      omega (arith, e, brackets_some (length ts), array_bytes (filled s scope (content_data t)) (filled_items s scope (items_of (map content_data ts))))

  pub items_taken : (ts : List Content) (ds : Items) (i left first initial brackets : ℕ) → items_of (map content_data ts) ≡ ds → brackets ≡ (if length ts == 0 then 2 else 1) → initial ≡ first - brackets
      → length ts ≤ i → left - trees_bytes (drop i ts) ≡ initial - trees_bytes ts → left ≡ first - length (canon (array (filled_items s scope ds)))
  items_taken ts ds i left first initial brackets is b e past w =
      subst (λ ds. left ≡ first - length (canon (array (filled_items s scope ds)))) is
      (array_taken ts first left (trees_done ts i left initial past w ∙ ap (λ m. m - trees_bytes ts) (e ∙ ap (λ n. first - n) b)))

-- ---- objects

abbrev Named : Type 0
Named = List ℕ × List ℕ

abbrev behind : Named → ℕ
behind m = length (member_text m) + 1

behind_is : (m : Named) → behind m ≡ 4 + length (flat_map escaped m.0) + length m.1
behind_is m = omega (arith, length-append (string_text m.0) (58 ∷ m.1), string_length m.0)

length-after_members : (ms : List Named) → length (after_commas (map member_text ms)) ≡ total behind ms
length-after_members [] = refl
length-after_members (m ∷ ms) = omega (arith, length-append (member_text m) (after_commas (map member_text ms)), length-after_members ms)

length-joined : (ms : List Named) → length (joined (map member_text ms)) ≡ total behind ms - 1
length-joined [] = omega arith
length-joined (m ∷ ms) = omega (arith, length-append (member_text m) (after_commas (map member_text ms)), length-after_members ms)

total_is : (ms : Members) → total behind (named_texts ms) ≡ members_bytes setting.Nothing ms
total_is no_members = refl
total_is (member k d ms) = omega (arith, behind_is (k, canon d), total_is ms)

pub object_bytes : (ms : Members) → length (canon (object ms)) ≡ 2 + (members_bytes setting.Nothing ms - 1)
object_bytes ms =
    let texts = in_order (λ (m : Named). m.0) (named_texts ms) in
    omega (arith, length-append (joined (map member_text texts)) (125 ∷ []), length-joined texts, total-in_order behind (λ (m : Named). m.0) (named_texts ms), total_is ms)

module _ (s : Lists) (scope : ℕ) where
  object_of : (ps : List Entry) (left new : ℕ) → new ≡ left - (if length ps == 0 then 2 else 1) - pairs_bytes s scope setting.Nothing ps
      → new ≡ left - length (canon (object (filled_members s scope (members_of (map entry_data ps)))))
  object_of [] left new e = omega (arith, e)
  object_of (p ∷ ps) left new e = omega (arith, e, brackets_some (length ps), object_bytes (filled_members s scope (members_of (map entry_data (p ∷ ps)))))

  pub object_taken : (ps : List Entry) (ms : Members) (left middle new brackets : ℕ) → members_of (map entry_data ps) ≡ ms → brackets ≡ (if length ps == 0 then 2 else 1) → middle ≡ left - brackets
      → new ≡ middle - members_bytes setting.Nothing (filled_members s scope ms) → new ≡ left - length (canon (object (filled_members s scope ms)))
  object_taken ps ms left middle new brackets is b e f =
      subst (λ ms. new ≡ middle - members_bytes setting.Nothing (filled_members s scope ms) → new ≡ left - length (canon (object (filled_members s scope ms)))) is
      (λ f. object_of ps left new (f ∙ ap (λ m. m - pairs_bytes s scope setting.Nothing ps) (e ∙ ap (λ n. left - n) b))) f

-- ---- a member that is set

with_bytes : (k : List ℕ) (f : Data → Data) (new : Data) (ms : Members) → IsOnce k ms
    → members_bytes setting.Nothing (with_member k f new ms) ≡ member_bytes setting.Nothing k (option_map_or f (get_member k ms) new) + members_bytes setting.Nothing (without k ms)
with_bytes k f new no_members w = refl
with_bytes k f new (member l d ms) w = by (bytes_eq l k) refl (with_bytes k f new ms w.1)
  where
    same : (l : List ℕ) → l ≡ k → Lacks k ms
        → members_bytes setting.Nothing (with_member k f new (member l d ms)) ≡ member_bytes setting.Nothing k (option_map_or f (get_member k (member l d ms)) new) + members_bytes setting.Nothing (without k (member l d ms))
    same l e lacks = subst (λ (l : List ℕ). members_bytes setting.Nothing (with_member k f new (member l d ms)) ≡ member_bytes setting.Nothing k (option_map_or f (get_member k (member l d ms)) new) + members_bytes setting.Nothing (without k (member l d ms))) (sym e) (
        ap (members_bytes setting.Nothing) (with_itself k f new d ms)
        ∙ sym (ap (λ o. member_bytes setting.Nothing k (option_map_or f o new) + members_bytes setting.Nothing (without k (member k d ms))) (get_itself k d ms)
        ∙ ap (λ x. member_bytes setting.Nothing k (f d) + members_bytes setting.Nothing x) (without_itself k d ms ∙ without_lacking k ms lacks)))

    by : (b : Bool) → bytes_eq l k ≡ b
        → members_bytes setting.Nothing (with_member k f new ms) ≡ member_bytes setting.Nothing k (option_map_or f (get_member k ms) new) + members_bytes setting.Nothing (without k ms)
        → members_bytes setting.Nothing (with_member k f new (member l d ms)) ≡ member_bytes setting.Nothing k (option_map_or f (get_member k (member l d ms)) new) + members_bytes setting.Nothing (without k (member l d ms))
    by true e ih = same l ((bytes_eq-Decides l k).0 e) (w.0 (sym ((bytes_eq-Decides l k).0 e)))
    by false e ih =
        let apart = other_name l k e in
        omega (
          arith,
          ap (members_bytes setting.Nothing) (with_other k l f new d ms apart),
          ap (members_bytes setting.Nothing) (without_other k l d ms (λ e. apart (sym e))),
          ap (λ o. member_bytes setting.Nothing k (option_map_or f o new)) (get_other k l d ms (λ e. apart (sym e))),
          ih,
        )

swapped : (a b : List ℕ) → bytes_eq a b ≡ bytes_eq b a
swapped a b = by (bytes_eq a b) (bytes_eq b a) refl refl
  where
    by : (x y : Bool) → bytes_eq a b ≡ x → bytes_eq b a ≡ y → x ≡ y
    by true true e f = refl
    by false false e f = refl
    by true false e f = absurd (other_name b a f (sym ((bytes_eq-Decides a b).0 e)))
    by false true e f = absurd (other_name a b e (sym ((bytes_eq-Decides b a).0 f)))

chosen_bytes : (b : Bool) (k : List ℕ) (d : Data) (ms : Members) → members_bytes setting.Nothing (if b then ms else member k d ms) ≡ cond b 0 (member_bytes setting.Nothing k d) + members_bytes setting.Nothing ms
chosen_bytes true k d ms = omega arith
chosen_bytes false k d ms = refl

pub without_args : (ms : Members) → members_bytes setting.Nothing (without (codes "response_requested") ms) ≡ members_bytes setting.Args ms
without_args no_members = refl
without_args (member k d ms) =
    let b = bytes_eq (codes "response_requested") k in
    chosen_bytes b k d (without (codes "response_requested") ms)
    ∙ omega (arith, without_args ms, ap (λ b. cond b 0 (4 + length (flat_map escaped k) + length (canon d))) (swapped (codes "response_requested") k))

without_if : (b : Bool) (name k : List ℕ) (d : Data) (ms : Members) → without name (if b then ms else member k d ms) ≡ (if b then without name ms else without name (member k d ms))
without_if true name k d ms = refl
without_if false name k d ms = refl

either_bytes : (a b : Bool) (k : List ℕ) (d : Data) (ms : Members)
    → members_bytes setting.Nothing (if a then ms else (if b then ms else member k d ms)) ≡ cond (b || a) 0 (member_bytes setting.Nothing k d) + members_bytes setting.Nothing ms
either_bytes true true k d ms = omega arith
either_bytes true false k d ms = omega arith
either_bytes false true k d ms = omega arith
either_bytes false false k d ms = refl

pub without_command : (ms : Members) → members_bytes setting.Nothing (without (codes "command_id") (without (codes "args") ms)) ≡ members_bytes setting.Command ms
without_command no_members = refl
without_command (member k d ms) =
    let a = bytes_eq (codes "args") k in
    let b = bytes_eq (codes "command_id") k in
    let rest = without (codes "args") ms in
    ap (members_bytes setting.Nothing) (without_if a (codes "command_id") k d rest)
    ∙ either_bytes a b k d (without (codes "command_id") rest)
    ∙ omega (
      arith,
      without_command ms,
      ap (λ x. cond (x || a) 0 (4 + length (flat_map escaped k) + length (canon d))) (swapped (codes "command_id") k),
      ap (λ x. cond (bytes_eq k (codes "command_id") || x) 0 (4 + length (flat_map escaped k) + length (canon d))) (swapped (codes "args") k),
    )

-- ---- members that are filled

module _ (s : Lists) (scope : ℕ) where
  lacks_filled : (k : List ℕ) (ms : Members) → Lacks k ms → Lacks k (filled_members s scope ms)
  lacks_filled k no_members w = tt
  lacks_filled k (member l d ms) w = (w.0, lacks_filled k ms w.1)

  once_filled : (k : List ℕ) (ms : Members) → IsOnce k ms → IsOnce k (filled_members s scope ms)
  once_filled k no_members w = tt
  once_filled k (member l d ms) w = (λ e. lacks_filled k ms (w.0 e), once_filled k ms w.1)

  map_ordering : (o : Ordering) (f : Data → Data) (a b c : Option Data) → match_ordering o (option_map f a) (option_map f b) (option_map f c) ≡ option_map f (match_ordering o a b c)
  map_ordering Less f a b c = refl
  map_ordering Equal f a b c = refl
  map_ordering Greater f a b c = refl

  pub get_filled : (k : List ℕ) (ms : Members) → get_member k (filled_members s scope ms) ≡ option_map (filled s scope) (get_member k ms)
  get_filled k no_members = refl
  get_filled k (member l d ms) =
      ap (λ o. match_ordering (slice_cmp nat_cmp k l) o (Some (filled s scope d)) o) (get_filled k ms)
      ∙ map_ordering (slice_cmp nat_cmp k l) (filled s scope) (get_member k ms) (Some d) (get_member k ms)

  -- arguments that ask for a complete response
  pub args_bytes : (ms : Members) → AreSortedMembers ms → length (canon (completed (object (filled_members s scope ms)))) ≡ 33 + members_bytes setting.Args (filled_members s scope ms)
  unfolding escaped
  args_bytes ms w =
      let ns = filled_members s scope ms in
      let asks = codes "response_requested" in
      let told = string (codes "complete") in
      let once = once_filled asks ms (once_sorted asks ms w) in
      object_bytes (set_member asks told ns)
      ∙ omega (arith, with_bytes asks (λ _. told) told ns once, ap (member_bytes setting.Nothing asks) (one_value told (get_member asks ns)), without_args ns)
    where
      one_value : (d : Data) (o : Option Data) → option_map_or (λ _. d) o d ≡ d
      one_value d None = refl
      one_value d (Some e) = refl

once_without : (k n : List ℕ) (ms : Members) → IsOnce k ms → IsOnce k (without n ms)
once_without k n no_members w = tt
once_without k n (member l d ms) w = by (bytes_eq n l) (once_without k n ms w.1)
  where
    lacks : (ms : Members) → Lacks k ms → Lacks k (without n ms)
    lacks no_members v = tt
    lacks (member m e ms) v = pick (bytes_eq n m) (lacks ms v.1)
      where
        pick : (b : Bool) → Lacks k (without n ms) → Lacks k (if b then without n ms else member m e (without n ms))
        pick true u = u
        pick false u = (v.0, u)

    by : (b : Bool) → IsOnce k (without n ms) → IsOnce k (if b then without n ms else member l d (without n ms))
    by true u = u
    by false u = (λ e. lacks ms (w.0 e), u)

apart : codes "args" ≡ codes "command_id" → ⊥
apart e = absurd (cc e)

pub one_value : (d : Data) (o : Option Data) → option_map_or (λ _. d) o d ≡ d
one_value d None = refl
one_value d (Some e) = refl

id_length : (run issue : ℕ) → member_bytes setting.Nothing (codes "command_id") (command_id run issue) ≡ id_bytes run issue
unfolding escaped
id_length run issue = omega (arith, string_length (decimal run ++ 46 ∷ decimal issue), flat_length (decimal run) (46 ∷ decimal issue))

-- a command
pub command_bytes : (run issue : ℕ) (ns : Members) → IsOnce (codes "args") ns → IsOnce (codes "command_id") ns
    → length (canon (addressed run issue (object ns))) ≡ 9 + id_bytes run issue + length (canon (completed_args (get_member (codes "args") ns))) + members_bytes setting.Command ns
unfolding escaped
command_bytes run issue ns once_args once_id =
    let id = codes "command_id" in
    let args = codes "args" in
    let c = command_id run issue in
    let new = completed (object no_members) in
    let set = set_member id c ns in
    object_bytes (with_member args completed new set)
    ∙ omega (
      arith,
      with_bytes args completed new set (once_with args id (λ _. c) c apart ns once_args),
      ap (λ o. member_bytes setting.Nothing args (option_map_or completed o new)) (get_with args id (λ _. c) c apart ns),
      ap (members_bytes setting.Nothing) (without_with args id (λ _. c) c apart ns),
      with_bytes id (λ _. c) c (without args ns) (once_without id args ns once_id),
      ap (member_bytes setting.Nothing id) (one_value c (get_member id (without args ns))),
      id_length run issue,
      without_command ns,
    )

-- ---- commands that are filled

-- without arguments
pub none_bytes : length (canon (completed_args None)) ≡ 33
unfolding escaped
none_bytes = refl

filled_twice : (s : Lists) (scope : ℕ) (o : Option (Bor Content)) → option_map (λ content. filled s scope (content_data content.now)) o ≡ option_map (filled s scope) (option_map (λ found. content_data found.now) o)
filled_twice s scope None = refl
filled_twice s scope (Some t) = refl

pub command_taken : (s : Lists) (scope run issue : ℕ) (ms : Members) (args : Option (Bor Content)) (left one two three four new count : ℕ) → AreSortedMembers ms
    → one ≡ left - 1 → two ≡ one - id_bytes run count → count ≡ issue → three ≡ two - 8 → option_map (λ found. content_data found.now) args ≡ get_member (codes "args") ms
    → four ≡ three - length (canon (completed_args (option_map (λ content. filled s scope (content_data content.now)) args)))
    → new ≡ four - members_bytes setting.Command (filled_members s scope ms)
    → new ≡ left - length (canon (addressed run issue (object (filled_members s scope ms))))
command_taken s scope run issue ms args left one two three four new count sorted e f n g h i j =
    let ns = filled_members s scope ms in
    let found : option_map (λ content. filled s scope (content_data content.now)) args ≡ get_member (codes "args") ns =
    filled_twice s scope args ∙ ap (option_map (filled s scope)) h ∙ sym (get_filled s scope (codes "args") ms) in
    let bytes = command_bytes run issue ns (once_filled s scope (codes "args") ms (once_sorted (codes "args") ms sorted)) (once_filled s scope (codes "command_id") ms (once_sorted (codes "command_id") ms sorted)) in
    omega (arith, e, f, g, i, j, bytes, ap (λ o. length (canon (completed_args o))) found, ap (λ m. id_bytes run m) n)
