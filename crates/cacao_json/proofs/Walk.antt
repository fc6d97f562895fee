-- An induction over what is read: P relates a JSON value to its data, Q the items, and R the members with those before them.
use Rattle.std.proofs.Common.{◌≡◌, ℕ, List, Bool, Option, Some, None, refl}
use Rattle.std.specs.Prelude.{IfSome, option_map, option_and_then}
use Rattle.json.specs.Token.{Token}
use Rattle.json.specs.Lex.{tokens}
use Rattle.json.specs.Json as json
use Rattle.json.specs.Tree.{json_tokens}
use Rattle.json.proofs.Unique.Spelling.{value-json_tokens_back}
use Rattle.std.proofs.Common.{[], ◌∷◌, ◌∙◌, append-nil}
use Rattle.serde_json.specs.Data.{Num, Data, null, boolean, number, string, array, object, Items, no_items, item, Members, no_members, put}
use Rattle.serde_json.specs.Read.{read, number_of, of_json, of_items, of_members, max_depth}

if_map : {A B : Type 0} (f : A → B) (P : A → Type 0) (Q : B → Type 0) → ((a : A) → P a → Q (f a)) → (o : Option A) → IfSome o P → IfSome (option_map f o) Q
if_map f P Q h None w = tt
if_map f P Q h (Some a) w = h a w

if_then : {A B : Type 0} (f : A → Option B) (P : A → Type 0) (Q : B → Type 0) → ((a : A) → P a → IfSome (f a) Q) → (o : Option A) → IfSome o P → IfSome (option_and_then f o) Q
if_then f P Q h None w = tt
if_then f P Q h (Some a) w = h a w

if_more : {A : Type 0} (P Q : A → Type 0) → ((a : A) → P a → Q a) → (o : Option A) → IfSome o P → IfSome o Q
if_more P Q h None w = tt
if_more P Q h (Some a) w = h a w

if_same : {A : Type 0} (o : Option A) → IfSome o (λ a. o ≡ Some a)
if_same None = tt
if_same (Some a) = refl

module _ (P : json.Json → Data → Type 0) (Q : json.Items → Items → Type 0) (R : json.Members → Members → Members → Type 0) (at_null : P json.null null) (at_boolean : (b : Bool) → P (json.boolean b) (boolean b))
    (at_number : (s : List ℕ) (n : Num) → number_of s ≡ Some n → P (json.number s) (number n)) (at_string : (s : List ℕ) → P (json.string s) (string s)) (at_array : (js : json.Items) (ds : Items) → Q js ds → P (json.array js) (array ds))
    (at_object : (ms : json.Members) (ds : Members) → R ms no_members ds → P (json.object ms) (object ds)) (at_no_items : Q json.no_items no_items)
    (at_item : (j : json.Json) (d : Data) (js : json.Items) (ds : Items) → P j d → Q js ds → Q (json.item j js) (item d ds)) (at_no_members : (found : Members) → R json.no_members found found)
    (at_member : (k : List ℕ) (j : json.Json) (d : Data) (ms : json.Members) (found ds : Members) → P j d → R ms (put k d found) ds → R (json.member k j ms) found ds) where
  mutual
    pub each_json : (j : json.Json) → IfSome (of_json j) (P j)
    each_json json.null = at_null
    each_json (json.boolean b) = at_boolean b
    each_json (json.number s) = if_map number (λ n. number_of s ≡ Some n) (P (json.number s)) (λ n e. at_number s n e) (number_of s) (if_same (number_of s))
    each_json (json.string s) = at_string s
    each_json (json.array js) = if_map array (Q js) (P (json.array js)) (at_array js) (of_items js) (each_items js)
    each_json (json.object ms) = if_map object (R ms no_members) (P (json.object ms)) (at_object ms) (of_members ms no_members) (each_members ms no_members)

    each_items : (js : json.Items) → IfSome (of_items js) (Q js)
    each_items json.no_items = at_no_items
    each_items (json.item j js) =
        if_then (λ d. option_map (item d) (of_items js)) (P j) (Q (json.item j js))
        (λ d w. if_map (item d) (Q js) (Q (json.item j js)) (λ ds v. at_item j d js ds w v) (of_items js) (each_items js)) (of_json j) (each_json j)

    each_members : (ms : json.Members) (found : Members) → IfSome (of_members ms found) (R ms found)
    each_members json.no_members found = at_no_members found
    each_members (json.member k j ms) found =
        if_then (λ d. of_members ms (put k d found)) (P j) (R (json.member k j ms) found)
        (λ d w. if_more (R ms (put k d found)) (R (json.member k j ms) found) (λ ds v. at_member k j d ms found ds w v) (of_members ms (put k d found)) (each_members ms (put k d found))) (of_json j) (each_json j)

last_of : (o : Option (json.Json × List Token)) (d : Data) → option_and_then of_json (option_and_then (λ p. json.if_last p.0 p.1) o) ≡ Some d → (j : json.Json) × (o ≡ Some (j, [])) × (of_json j ≡ Some d)
last_of None d e = absurd (cc)
last_of (Some (j, [])) d e = (j, refl, e)
last_of (Some (j, t ∷ ts)) d e = absurd (cc)

-- the tokens of a text that is read, and what they are read as
pub tokens-read : (text : List ℕ) (d : Data) → read text ≡ Some d → (j : json.Json) × (tokens text ≡ json_tokens j) × (of_json j ≡ Some d)
tokens-read text d e =
    let w = last_of (json.value max_depth (tokens text)) d e in
    (w.0, value-json_tokens_back max_depth (tokens text) [] w.0 w.1 ∙ append-nil (json_tokens w.0), w.2)
