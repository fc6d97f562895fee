-- Objects that are built by putting their members, the last first.
use Rattle.std.proofs.Common.{◌≡◌, ◌==◌, ℕ, ◌+◌, ◌<◌, false, List, [], ◌∷◌, ◌++◌, map, take, length, get_or, Option, Some, None, Result, Ok, Err, IfOk, refl, sym, ap, ◌∙◌, subst}
use Rattle.std.proofs.lemmas.List.{take_more, map-append}
use Rattle.std.specs.Ordering.{match_ordering}
use Rattle.serde_json.specs.Data.{Data, string, object, Items, item, Members, member, put}
use Rattle.cacao_json.specs.declared.tree.Pair.{Pair}
use Rattle.cacao_json.specs.Tree.{pair_data, members_of, item_last}
use Rattle.oc2_msg_targets.specs.declared.features.Feature.{Feature}
use Rattle.oc2_msg_targets.specs.Parts.{present, texts, unless_empty}
use Rattle.oc2_msg_targets.specs.Words.{feature_word}
use Rattle.oc2_msg_targets.specs.Puts.{put_part}
use Rattle.oc2_msg_targets.proofs.PresentLemmas.{Part, AreAbove}

put_first : (k : List ℕ) (d : Data) (ps : List Part) → AreAbove k ps → put k d (present ps) ≡ member k d (present ps)
put_first k d [] h = refl
put_first k d ((l, None) ∷ ps) h = put_first k d ps h.1
put_first k d ((l, Some e) ∷ ps) h = ap (λ o. match_ordering o (member k d (member l e (present ps))) (member l d (present ps)) (member l e (put k d (present ps)))) h.0

put_part-first : (k : List ℕ) (o : Option Data) (ps : List Part) → AreAbove k ps → put_part k o (present ps) ≡ present ((k, o) ∷ ps)
put_part-first k None ps h = refl
put_part-first k (Some d) ps h = put_first k d ps h

-- one part more, in front
pub one_more : (k : List ℕ) (o part : Option Data) (ps : List Part) (old new : Members) → new ≡ put_part k o old → o ≡ part → old ≡ present ps → AreAbove k ps → new ≡ present ((k, part) ∷ ps)
one_more k o part ps old new e is before above =
    e ∙ ap (λ x. put_part k x old) is ∙ ap (put_part k part) before ∙ put_part-first k part ps above

pub unless_empty-some : (ms : Members) (ps : List Pair) → members_of (map pair_data ps) ≡ ms → length ps == 0 ≡ false → Some (object ms) ≡ unless_empty ms
unless_empty-some ms [] is some = absurd (cc)
unless_empty-some ms (p ∷ ps) is some = ap (λ m. Some (object m)) (sym is) ∙ ap unless_empty is

-- ---- lists of texts

pub item_last-texts : (words : List (List ℕ)) (word : List ℕ) → item_last (texts words) (string word) ≡ texts (words ++ word ∷ [])
item_last-texts [] word = refl
item_last-texts (w ∷ ws) word = ap (item (string w)) (item_last-texts ws word)

-- ---- results

pub holds_if_ok : {E : Type 0} (r : Result (List ℕ) E) (text : List ℕ) (Q : List ℕ → Type 0) → IfOk r (λ t. t ≡ text) → Q text → IfOk r Q
holds_if_ok (Ok t) text Q is h = subst Q (sym is) h
holds_if_ok (Err e) text Q is h = tt

pub one_feature_more : (fs : List Feature) (i : ℕ) (d : Feature) (old new : Items) (word : List ℕ) → i < length fs → old ≡ texts (map feature_word (take i fs)) → word ≡ feature_word (get_or fs i d) → new ≡ item_last old (string word) → new ≡ texts (map feature_word (take (i + 1) fs))
one_feature_more fs i d old new word below before is e =
    e ∙ ap (λ x. item_last x (string word)) before ∙ item_last-texts (map feature_word (take i fs)) word
    ∙ ap texts (ap (λ w. map feature_word (take i fs) ++ w ∷ []) is ∙ sym (rw (take_more fs i d below, map-append) refl))
