-- Objects are trees that their canonical text has.
use Rattle.std.proofs.Common.{◌≡◌, ℕ, zero, suc, ◌<◌, ◌≤◌, ◌^◌, Bool, true, false, ◌&&◌, cond, List, [], ◌∷◌, map, codes, Option, Some, None, Ordering, Less, Equal, Greater, nat_cmp, arith, refl, ap, subst}
use Rattle.std.specs.Prelude.{IfSome, decimal, nat_le, slice_get}
use Rattle.std.specs.Option.{option_map_or}
use Rattle.std.specs.List.{AllByRecursion, list_all}
use Rattle.std.specs.Ordering.{is_lt}
use Rattle.std.specs.Cmp.Lexicographic.{slice_cmp}
use Rattle.std.specs.Str.{IsUtf8, is_utf8}
use Rattle.std.proofs.lemmas.Fmt.{IsAscii-decimal}
use Rattle.std.proofs.lemmas.Str.{IsUtf8-from_ascii, is_utf8-from_IsUtf8}
use Rattle.serde_json.specs.Data.{Data, Members, depth, items_depth, member, object, string}
use Rattle.cacao_json.specs.Profile.{AreFormed, IsFormed, IsTree}
use Rattle.cacao_json.specs.Tree.{items_of, members_of}
use Rattle.cacao_text.proofs.LawLemmas.{tree-canon}
use Rattle.oc2_msg_targets.specs.Parts.{present, whole_data}
use Rattle.oc2_msg_targets.proofs.PresentLemmas.{AreAbove, ArePartsOf, Part, IsFormed-object_of, depth-object_of}
use Rattle.oc2_msg_targets.proofs.ValueLemmas.{IsFormed-whole_data, IsUtf8-word, is_ascii_text}
use Rattle.run_records.specs.Ranges.{InRange, RepliesInRange, TellsInRange}
use Rattle.run_records.specs.declared.record.Record.{Record}
use Rattle.run_records.specs.declared.record.Record.TheVariants as entry
use Rattle.flow_core_rules.specs.Lines.{key_of}
use Rattle.flow_core_rules.specs.State.{Shown}
use Rattle.cacao_view_log.specs.Laws.{ObjectsHaveTrees}
use Rattle.cacao_view_log.specs.Objects.{bytes_data, expire_members, members, most_whole, number_data, record_object, reply_members, text_data, told_members}
use Rattle.cacao_view_log.specs.Senders.{sender_task, senders}
use Rattle.cacao_view_log.specs.declared.sender.Sender.{Sender}

-- ---- names that rise

abbrev is_above : List ℕ → List ℕ → Bool
is_above k l = is_lt (slice_cmp nat_cmp k l)

abbrev rise : List (List ℕ) → Bool
rise [] = true
rise (k ∷ ks) = is_ascii_text k && (list_all (is_above k) ks && rise ks)

abbrev Member : Type 0
Member = List ℕ × Data

abbrev names : List Member → List (List ℕ)
names ms = map (λ (m : Member). m.0) ms

abbrev parts_of : List Member → List Part
parts_of [] = []
parts_of (m ∷ ms) = (m.0, Some m.1) ∷ parts_of ms

both : (a b : Bool) → a && b ≡ true → (a ≡ true) × (b ≡ true)
both true true e = (refl, refl)
both true false e = absurd (cc)
both false b e = absurd (cc)

less : (o : Ordering) → is_lt o ≡ true → o ≡ Less
less Less e = refl
less Equal e = absurd (cc)
less Greater e = absurd (cc)

above : (k : List ℕ) (ms : List Member) → list_all (is_above k) (names ms) ≡ true → AreAbove k (parts_of ms)
above k [] e = tt
above k (m ∷ ms) e = (less (slice_cmp nat_cmp k m.0) (both _ _ e).0, above k ms (both _ _ e).1)

-- ---- values

abbrev IsFine : Data → Type 0
IsFine d = IsFormed d × (depth d ≤ 1)

abbrev AreFine : List Member → Type 0
AreFine [] = Unit {0}
AreFine (m ∷ ms) = IsFine m.1 × AreFine ms

fine_parts : (ms : List Member) → rise (names ms) ≡ true → AreFine ms → ArePartsOf 1 (parts_of ms)
fine_parts [] e h = tt
fine_parts (m ∷ ms) e h =
    let name = both _ _ e in
    let rest = both _ _ name.1 in
    (IsUtf8-word m.0 name.0, h.0.0, h.0.1, above m.0 ms rest.0, fine_parts ms rest.1 h.1)

present_is : (ms : List Member) → present (parts_of ms) ≡ members_of ms
present_is [] = refl
present_is (m ∷ ms) = ap (λ (l : Members). member m.0 m.1 l) (present_is ms)

fine_object : (ms : List Member) → rise (names ms) ≡ true → AreFine ms → IsTree (object (members_of ms))
fine_object ms e h =
    let parts = fine_parts ms e h in
    subst (λ (l : Members). IsTree (object l)) (present_is ms) (record {
      shallow = omega (arith, depth-object_of 1 (parts_of ms) parts);
      formed = IsFormed-object_of 1 (parts_of ms) parts;
    })

word : (text : List ℕ) → is_ascii_text text ≡ true → IsFine (string text)
word text e = (IsUtf8-word text e, omega arith)

plain : (text : List ℕ) → IsUtf8 text → IsFine (string text)
plain text h = (h, omega arith)

whole : (n : ℕ) → n ≤ most_whole → IsFine (whole_data n)
whole n h = (IsFormed-whole_data n h, omega arith)

number_by : (n : ℕ) (b : Bool) → nat_le n most_whole ≡ b → n < 2 ^ 64 → IsFine (cond b (whole_data n) (string (decimal n)))
number_by n true e lt = (e, omega arith)
number_by n false e lt = (IsUtf8-from_ascii (decimal n) (IsAscii-decimal n lt), omega arith)

number : (n : ℕ) → n < 2 ^ 64 → IsFine (number_data n)
number n lt = number_by n (nat_le n most_whole) refl lt

text_by : (text : List ℕ) (b : Bool) → is_utf8 text ≡ b → IsUtf8 text → IsFormed (cond b (string text) (bytes_data text)) × (depth (cond b (string text) (bytes_data text)) ≤ 0)
text_by text true e h = (h, omega arith)
text_by text false e h = absurd (let yes : is_utf8 text ≡ true = is_utf8-from_IsUtf8 text h in cc)

text : (text : List ℕ) → IsUtf8 text → IsFormed (text_data text) × (depth (text_data text) ≤ 0)
text t h = text_by t (is_utf8 t) refl h

text_fine : (t : List ℕ) → IsUtf8 t → IsFine (text_data t)
text_fine t h = let one = text t h in (one.0, omega (arith, one.1))

texts_formed : (ts : List (List ℕ)) → AllByRecursion IsUtf8 ts → AreFormed (items_of (map text_data ts)) × (items_depth (items_of (map text_data ts)) ≤ 0)
texts_formed [] h = (tt, omega arith)
texts_formed (t ∷ ts) h =
    let one = text t h.0 in
    let others = texts_formed ts h.1 in
    ((one.0, others.0), omega (arith, one.1, others.1))

-- ---- objects

abbrev IsSmall : Sender → Type 0
IsSmall s = (s.task ≤ most_whole) × (s.agent ≤ most_whole)

small_senders : (earlier : List Record) → AllByRecursion InRange earlier → AllByRecursion IsSmall (senders earlier)
small_senders [] h = tt
small_senders (entry.Send task issue agent moment bytes ∷ rs) h = ((omega (arith, (h.0).task_fits), omega (arith, (h.0).last_agent)), small_senders rs h.1)
small_senders (entry.Ask task issue moment bytes ∷ rs) h = ((omega (arith, (h.0).task_fits), omega arith), small_senders rs h.1)
small_senders (entry.Begin run moment books bind ∷ rs) h = small_senders rs h.1
small_senders (entry.Walk task moment ∷ rs) h = small_senders rs h.1
small_senders (entry.Reply issue moment status rule text ∷ rs) h = small_senders rs h.1
small_senders (entry.Expire issue moment ∷ rs) h = small_senders rs h.1
small_senders (entry.Upgrade version moment ∷ rs) h = small_senders rs h.1
small_senders (entry.Told issue moment status text ∷ rs) h = small_senders rs h.1

small_at : (sent : List Sender) (n : ℕ) → AllByRecursion IsSmall sent → IfSome (slice_get sent n) IsSmall
small_at [] n h = tt
small_at (s ∷ sent) zero h = h.0
small_at (s ∷ sent) (suc n) h = small_at sent n h.1

sender_at : (earlier : List Record) (issue : ℕ) → AllByRecursion InRange earlier → IfSome (slice_get (senders earlier) issue) IsSmall
sender_at earlier issue ranges = small_at (senders earlier) issue (small_senders earlier ranges)

-- the key of the step at which the task of who sent or asked stands
abbrev key_by : Shown → Option Sender → List ℕ
key_by before sender = option_map_or (key_of before) (sender_task sender) []

reply_tree : (run : ℕ) (before : Shown) (n : ℕ) (sender : Option Sender) (issue moment status rule : ℕ) (told : List ℕ) → RepliesInRange issue moment status rule told → run < 2 ^ 64 → n ≤ most_whole
    → IfSome sender IsSmall → IsUtf8 (key_by before sender) → IsTree (object (members_of (reply_members run before n sender issue moment status rule told)))
reply_tree run before n None issue moment status rule told r run_fits small by key =
    fine_object (reply_members run before n None issue moment status rule told) refl
    (whole issue (omega (arith, r.issue_fits)), (word (codes "reply") refl, (number moment r.moment_fits, (whole n small, (whole rule (omega (arith, r.rule_fits)), (number run run_fits, (whole status (omega (arith, r.status_fits)), (text_fine told r.text_is_utf8, tt))))))))
reply_tree run before n (Some s) issue moment status rule told r run_fits small by key =
    fine_object (reply_members run before n (Some s) issue moment status rule told) refl (
      whole s.agent by.1,
      (
        whole issue (omega (arith, r.issue_fits)),
        (
          word (codes "reply") refl,
          (
            number moment r.moment_fits,
            (
              whole n small,
              (
                whole rule (omega (arith, r.rule_fits)),
                (
                  number run run_fits,
                  (whole status (omega (arith, r.status_fits)), (plain (key_of before s.task) key, (whole s.task by.0, (text_fine told r.text_is_utf8, tt)))),
                ),
              ),
            ),
          ),
        ),
      ),
    )

expire_tree : (run : ℕ) (before : Shown) (n : ℕ) (sender : Option Sender) (issue moment : ℕ) → (issue < 2 ^ 32) × (moment < 2 ^ 64) → run < 2 ^ 64 → n ≤ most_whole
    → IfSome sender IsSmall → IsUtf8 (key_by before sender) → IsTree (object (members_of (expire_members run before n sender issue moment)))
expire_tree run before n None issue moment r run_fits small by key =
    fine_object (expire_members run before n None issue moment) refl
    (whole issue (omega (arith, r.0)), (word (codes "expire") refl, (number moment r.1, (whole n small, (number run run_fits, tt)))))
expire_tree run before n (Some s) issue moment r run_fits small by key =
    fine_object (expire_members run before n (Some s) issue moment) refl
    (whole s.agent by.1, (whole issue (omega (arith, r.0)), (word (codes "expire") refl, (number moment r.1, (whole n small, (number run run_fits, (plain (key_of before s.task) key, (whole s.task by.0, tt))))))))

told_tree : (run : ℕ) (before : Shown) (n : ℕ) (sender : Option Sender) (issue moment status : ℕ) (answer : List ℕ) → TellsInRange issue moment status answer → run < 2 ^ 64 → n ≤ most_whole
    → IfSome sender IsSmall → IsUtf8 (key_by before sender) → IsTree (object (members_of (told_members run before n sender issue moment status answer)))
told_tree run before n None issue moment status answer r run_fits small by key =
    fine_object (told_members run before n None issue moment status answer) refl
    (text_fine answer r.text_is_utf8, (whole issue (omega (arith, r.issue_fits)), (word (codes "told") refl, (number moment r.moment_fits, (whole n small, (number run run_fits, (whole status (omega (arith, r.status_fits)), tt)))))))
told_tree run before n (Some s) issue moment status answer r run_fits small by key =
    fine_object (told_members run before n (Some s) issue moment status answer) refl (
      text_fine answer r.text_is_utf8,
      (
        whole issue (omega (arith, r.issue_fits)),
        (
          word (codes "told") refl,
          (
            number moment r.moment_fits,
            (
              whole n small,
              (
                number run run_fits,
                (
                  whole status (omega (arith, r.status_fits)),
                  (plain (key_of before s.task) key, (whole s.task by.0, tt)),
                ),
              ),
            ),
          ),
        ),
      ),
    )

pub objects_have_trees : ObjectsHaveTrees
objects_have_trees run before earlier n (entry.Begin held moment books bind) ranges r run_fits small texts key =
    let each = texts_formed books texts.0 in
    tree-canon (record_object run before (senders earlier) n (entry.Begin held moment books bind)) (fine_object (members run before (senders earlier) n (entry.Begin held moment books bind)) refl
    (text_fine bind texts.1, ((each.0, omega (arith, each.1)), (word (codes "begin") refl, (number moment r.moment_fits, (whole n small, (number held r.run_fits, tt)))))))
objects_have_trees run before earlier n (entry.Walk task moment) ranges r run_fits small texts key =
    tree-canon (record_object run before (senders earlier) n (entry.Walk task moment)) (fine_object (members run before (senders earlier) n (entry.Walk task moment)) refl
    (word (codes "walk") refl, (number moment r.1, (whole n small, (number run run_fits, (plain (key_of before task) key, (whole task (omega (arith, r.0)), tt)))))))
objects_have_trees run before earlier n (entry.Send task issue agent moment command) ranges r run_fits small texts key =
    tree-canon (record_object run before (senders earlier) n (entry.Send task issue agent moment command)) (fine_object (members run before (senders earlier) n (entry.Send task issue agent moment command)) refl (
      whole agent (omega (arith, r.last_agent)),
      (
        text_fine command texts,
        (
          whole issue (omega (arith, r.issue_fits)),
          (
            word (codes "send") refl,
            (
              number moment r.moment_fits,
              (
                whole n small,
                (
                  number run run_fits,
                  (plain (key_of before task) key, (whole task (omega (arith, r.task_fits)), tt)),
                ),
              ),
            ),
          ),
        ),
      ),
    ))
objects_have_trees run before earlier n (entry.Reply issue moment status rule told) ranges r run_fits small texts key =
    tree-canon (record_object run before (senders earlier) n (entry.Reply issue moment status rule told))
    (reply_tree run before n (slice_get (senders earlier) issue) issue moment status rule told r run_fits small (sender_at earlier issue ranges) key)
objects_have_trees run before earlier n (entry.Expire issue moment) ranges r run_fits small texts key =
    tree-canon (record_object run before (senders earlier) n (entry.Expire issue moment))
    (expire_tree run before n (slice_get (senders earlier) issue) issue moment r run_fits small (sender_at earlier issue ranges) key)
objects_have_trees run before earlier n (entry.Upgrade version moment) ranges r run_fits small texts key =
    tree-canon (record_object run before (senders earlier) n (entry.Upgrade version moment)) (fine_object (members run before (senders earlier) n (entry.Upgrade version moment)) refl
    (word (codes "upgrade") refl, (number moment r.1, (whole n small, (number run run_fits, (whole version (omega (arith, r.0)), tt))))))
objects_have_trees run before earlier n (entry.Ask task issue moment question) ranges r run_fits small texts key =
    tree-canon (record_object run before (senders earlier) n (entry.Ask task issue moment question)) (fine_object (members run before (senders earlier) n (entry.Ask task issue moment question)) refl (
      whole issue (omega (arith, r.issue_fits)),
      (
        word (codes "ask") refl,
        (
          number moment r.moment_fits,
          (
            whole n small,
            (
              text_fine question r.text_is_utf8,
              (
                number run run_fits,
                (plain (key_of before task) key, (whole task (omega (arith, r.task_fits)), tt)),
              ),
            ),
          ),
        ),
      ),
    ))
objects_have_trees run before earlier n (entry.Told issue moment status answer) ranges r run_fits small texts key =
    tree-canon (record_object run before (senders earlier) n (entry.Told issue moment status answer))
    (told_tree run before n (slice_get (senders earlier) issue) issue moment status answer r run_fits small (sender_at earlier issue ranges) key)
