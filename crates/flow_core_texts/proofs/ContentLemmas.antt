-- Lists that are read one by one, and members that are looked for.
use Rattle.std.proofs.Common.{◌≡◌, ℕ, ◌+◌, ◌<◌, true, false, List, ◌∷◌, ◌++◌, length, drop, get_or, map, Option, Some, sym, ap, subst, ◌∙◌}
use Rattle.std.specs.Str.{bytes_eq}
use Rattle.std.proofs.lemmas.List.{at_drop_more}
use Rattle.std.proofs.lemmas.Slice.Eq.{bytes_eq-Decides}
use Rattle.serde_json.specs.Data.{Data, Members, member}
use Rattle.serde_json.specs.Find.{get_member}
use Rattle.cacao_json.specs.Tree.{members_of}
use Rattle.flow_core_texts.specs.declared.contents.Entry.{Entry}
use Rattle.flow_core_texts.specs.Contents.{content_data, entry_data}
use Rattle.flow_core_texts.proofs.MemberLemmas.{get_itself, get_other, other_name}

module _ {X Y Z : Type 0} (f : X → Z) (g : Y → Z) (xs : List X) where
  -- what was read, and then what is left
  abbrev pub AreRead : List Y → ℕ → Type 0
  AreRead ys i = map g ys ++ map f (drop i xs) ≡ map f xs

-- ---- a member that is looked for

module _ (k : List ℕ) where
  get_same : (l : List ℕ) (d : Data) (ms : Members) → bytes_eq l k ≡ true → get_member k (member l d ms) ≡ Some d
  get_same l d ms e = subst (λ (n : List ℕ). get_member k (member n d ms) ≡ Some d) (sym ((bytes_eq-Decides l k).0 e)) (get_itself k d ms)

  get_apart : (l : List ℕ) (d : Data) (ms : Members) → bytes_eq l k ≡ false → get_member k (member l d ms) ≡ get_member k ms
  get_apart l d ms e = get_other k l d ms (λ same. other_name l k e (sym same))

  -- the member with that name among entries
  abbrev pub member_in : List Entry → Option Data
  member_in es = get_member k (members_of (map entry_data es))

  pub member_here : (es : List Entry) (i : ℕ) (e : Entry) (name : List ℕ) → i < length es → e ≡ get_or es i e → name ≡ e.name → bytes_eq name k ≡ true → member_in (drop i es) ≡ member_in es → Some (content_data e.content) ≡ member_in es
  member_here es i e name below at is same w =
      sym (at_drop_more member_in es i e below ∙ ap (λ (x : Entry). member_in (x ∷ drop (i + 1) es)) (sym at)
      ∙ get_same e.name (content_data e.content) (members_of (map entry_data (drop (i + 1) es))) (ap (λ l. bytes_eq l k) (sym is) ∙ same)) ∙ w

  pub member_behind : (es : List Entry) (i : ℕ) (e : Entry) (name : List ℕ) → i < length es → e ≡ get_or es i e → name ≡ e.name → bytes_eq name k ≡ false → member_in (drop i es) ≡ member_in es → member_in (drop (i + 1) es) ≡ member_in es
  member_behind es i e name below at is differs w =
      sym (at_drop_more member_in es i e below ∙ ap (λ (x : Entry). member_in (x ∷ drop (i + 1) es)) (sym at)
      ∙ get_apart e.name (content_data e.content) (members_of (map entry_data (drop (i + 1) es))) (ap (λ l. bytes_eq l k) (sym is) ∙ differs)) ∙ w
