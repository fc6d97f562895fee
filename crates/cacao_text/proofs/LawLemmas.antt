-- Canonical text has the tree that it was made of.
use Rattle.std.proofs.Common.{◌≡◌, ℕ, ◌≤◌, List, Bool, true, false, Option, Some, None, Less, nat_cmp, refl, sym, ap, ◌∙◌, arith}
use Rattle.std.specs.Prelude.{option_map, codes, if◌then◌else◌}
use Rattle.std.specs.Cmp.Lexicographic.{slice_cmp}
use Rattle.std.specs.Str.{is_utf8, bytes_eq}
use Rattle.std.proofs.lemmas.Str.{is_utf8-from_IsUtf8}
use Rattle.std.proofs.lemmas.Cmp.{nat_list_cmp_total}
use Rattle.serde_json.specs.Data.{Data, null, boolean, number, string, array, object, Members, no_members, member, depth, members_depth}
use Rattle.serde_json.specs.Read.{read}
use Rattle.cacao_json.specs.Reading.{reading, tree}
use Rattle.cacao_json.specs.Profile.{IsBelow, AreFormedMembers, IsTree}
use Rattle.cacao_json.proofs.Readings.{tree-from_reading}
use Rattle.cacao_json.proofs.Profiles.{formed_whole}
use Rattle.cacao_json.specs.Tree.{without}
use Rattle.cacao_text.specs.Canon.{canon, unsigned_of, book_text}
use Rattle.cacao_text.specs.Laws.{ReadsBack, HasOneText, IsFixed, BookReadsBack, BookIsFixed}
use Rattle.cacao_text.proofs.ReadBack.{read-canon}
use Rattle.cacao_text.proofs.Utf8Text.{IsUtf8-canon}
use Rattle.cacao_text.proofs.ColonCount.{colons-canon}

-- ---- the law

reading_if : (b : Bool) (o : Option Data) → b ≡ true → (if b then o else None) ≡ o
reading_if true o e = refl
reading_if false o e = absurd (cc)

pub tree-canon : ReadsBack
tree-canon d w =
    let utf8 = is_utf8-from_IsUtf8 (canon d) (IsUtf8-canon d w.formed) in
    let reads : reading (canon d) ≡ Some d = reading_if (is_utf8 (canon d)) (read (canon d)) utf8 ∙ read-canon d w in
    tree-from_reading (canon d) d reads (colons-canon d w.formed) (formed_whole d w.formed)

some_is : (d e : Data) → Some d ≡ Some e → d ≡ e
some_is d e p = cc

pub one_text : HasOneText
one_text d e v w = (λ same. some_is d e (sym (tree-canon d v) ∙ ap tree same ∙ tree-canon e w), λ same. ap canon same)

pub fixed : IsFixed
fixed d w = ap (option_map canon) (tree-canon d w)

-- ---- books

below_if : (b : Bool) (k l : List ℕ) (d : Data) (ms : Members) → slice_cmp nat_cmp k l ≡ Less → IsBelow k ms → IsBelow k (if b then ms else member l d ms)
below_if true k l d ms h w = w
below_if false k l d ms h w = h

below_more : (k l : List ℕ) (ms : Members) → slice_cmp nat_cmp k l ≡ Less → IsBelow l ms → IsBelow k ms
below_more k l no_members h w = tt
below_more k l (member m d ms) h w = nat_list_cmp_total.trans k l m h w

below_without : (n k : List ℕ) (ms : Members) → AreFormedMembers ms → IsBelow k ms → IsBelow k (without n ms)
below_without n k no_members f h = tt
below_without n k (member l d ms) f h = below_if (bytes_eq n l) k l d (without n ms) h (below_without n k ms f.3 (below_more k l ms h f.2))

formed_if : (b : Bool) (k : List ℕ) (d : Data) (ms : Members) → AreFormedMembers ms → AreFormedMembers (member k d ms) → AreFormedMembers (if b then ms else member k d ms)
formed_if true k d ms v w = v
formed_if false k d ms v w = w

formed_without : (n : List ℕ) (ms : Members) → AreFormedMembers ms → AreFormedMembers (without n ms)
formed_without n no_members h = tt
formed_without n (member k d ms) h =
    let rest = formed_without n ms h.3 in
    formed_if (bytes_eq n k) k d (without n ms) rest (h.0, h.1, below_without n k ms h.3 h.2, rest)

depth_if : (b : Bool) (k : List ℕ) (d : Data) (ms : Members) (n : ℕ) → depth d ≤ n → members_depth ms ≤ n → members_depth (if b then ms else member k d ms) ≤ n
depth_if true k d ms n v w = w
depth_if false k d ms n v w = omega arith

depth_without : (name : List ℕ) (ms : Members) (n : ℕ) → members_depth ms ≤ n → members_depth (without name ms) ≤ n
depth_without name no_members n h = h
depth_without name (member k d ms) n h = depth_if (bytes_eq name k) k d (without name ms) n (omega arith) (depth_without name ms n (omega arith))

tree_by : (d : Data) → IsTree d → IsTree (unsigned_of d)
tree_by null w = w
tree_by (boolean b) w = w
tree_by (number n) w = w
tree_by (string s) w = w
tree_by (array ds) w = w
tree_by (object ms) w = record {
  shallow = omega (arith, w.shallow, depth_without (codes "signatures") ms (members_depth ms) (omega arith));
  formed = formed_without (codes "signatures") ms w.formed;
}

pub tree-book_text : BookReadsBack
tree-book_text d w = tree-canon (unsigned_of d) (tree_by d w)

again_if : (b : Bool) (n k : List ℕ) (d : Data) (ms : Members) → bytes_eq n k ≡ b → without n ms ≡ ms → without n (if b then ms else member k d ms) ≡ (if b then ms else member k d ms)
again_if true n k d ms e h = h
again_if false n k d ms e h = ap (λ b. if b then without n ms else member k d (without n ms)) e ∙ ap (member k d) h

without-without : (n : List ℕ) (ms : Members) → without n (without n ms) ≡ without n ms
without-without n no_members = refl
without-without n (member k d ms) = again_if (bytes_eq n k) n k d (without n ms) refl (without-without n ms)

unsigned_twice : (d : Data) → unsigned_of (unsigned_of d) ≡ unsigned_of d
unsigned_twice null = refl
unsigned_twice (boolean b) = refl
unsigned_twice (number n) = refl
unsigned_twice (string s) = refl
unsigned_twice (array ds) = refl
unsigned_twice (object ms) = ap object (without-without (codes "signatures") ms)

pub book_fixed : BookIsFixed
book_fixed d w = ap (option_map book_text) (tree-book_text d w) ∙ ap (λ e. Some (canon e)) (unsigned_twice d)
