-- A command with its identifier and its arguments: the members that are put, beside the definition.
use Rattle.std.proofs.Common.{◌≡◌, ℕ, List, [], ◌∷◌, ◌++◌, map, codes, Option, Some, None, refl, sym, ap, subst, ◌∙◌}
use Rattle.std.specs.Option.{option_map_or}
use Rattle.std.specs.Str.{IsAscii}
use Rattle.std.proofs.lemmas.Str.{IsUtf8-from_ascii}
use Rattle.serde_json.specs.Data.{Data, string, object, Members, no_members, put}
use Rattle.serde_json.specs.Find.{get_member}
use Rattle.cacao_json.specs.Tree.{without}
use Rattle.cacao_json.specs.Profile.{AreSortedMembers}
use Rattle.cacao_text.specs.Canon.{canon, joined, member_text}
use Rattle.flow_core_rules.specs.Filled.{with_member, set_member, completed, command_id, addressed}
use Rattle.flow_core_values.specs.Completed.{completed_args}
use Rattle.flow_core_texts.proofs.UnitLemmas.{ascii_of, told_apart}
use Rattle.flow_core_texts.proofs.MemberLemmas.{placed, place, with_placed, put_placed, told_sorted, once_sorted, lacks_without, lacks_put, without_lacking, once_with, told_with, get_with, without_with}

abbrev id_name : List ℕ
id_name = codes "command_id"

abbrev args_name : List ℕ
args_name = codes "args"

abbrev asks_name : List ℕ
asks_name = codes "response_requested"

ascii_id : IsAscii (codes "command_id")
ascii_id = ascii_of (codes "command_id") refl

ascii_args : IsAscii (codes "args")
ascii_args = ascii_of (codes "args") refl

ascii_asks : IsAscii (codes "response_requested")
ascii_asks = ascii_of (codes "response_requested") refl

apart : codes "args" ≡ codes "command_id" → ⊥
apart e = absurd (cc e)

same_text : (ms ns : Members) → placed [] ms ≡ placed [] ns → canon (object ms) ≡ canon (object ns)
same_text ms ns e = ap (λ l. 123 ∷ (joined (map member_text l) ++ 125 ∷ [])) e

one_value : (d : Data) (o : Option Data) → option_map_or (λ _. d) o d ≡ d
one_value d None = refl
one_value d (Some e) = refl

set_placed : (k : List ℕ) (d : Data) (ms : Members) → IsAscii k → AreSortedMembers ms → placed [] (set_member k d ms) ≡ place (k, canon d) (placed [] (without k ms))
set_placed k d ms a w =
    with_placed k (λ _. d) d ms [] (told_sorted k ms a w) (once_sorted k ms w)
    ∙ ap (λ e. place (k, canon e) (placed [] (without k ms))) (one_value d (get_member k ms))

-- arguments that ask for a complete response
pub completed_put : (ms : Members) (d : Data) → AreSortedMembers ms → d ≡ string (codes "complete") → canon (object (put (codes "response_requested") d ms)) ≡ canon (completed (object ms))
completed_put ms d w e =
    ap (λ d. canon (object (put asks_name d ms))) e
    ∙ same_text (put asks_name (string (codes "complete")) ms) (set_member asks_name (string (codes "complete")) ms)
    (put_placed asks_name (string (codes "complete")) ms [] (told_sorted asks_name ms ascii_asks w) w ∙ sym (set_placed asks_name (string (codes "complete")) ms ascii_asks w))

-- the members, by what is put after `args` was taken out
put_both : (ms : Members) (id args : Data) → AreSortedMembers (without (codes "args") ms) → AreSortedMembers (put (codes "command_id") id (without (codes "args") ms))
    → placed [] (put (codes "args") args (put (codes "command_id") id (without (codes "args") ms)))
    ≡ place (codes "args", canon args) (place (codes "command_id", canon id) (placed [] (without (codes "command_id") (without (codes "args") ms))))
put_both ms id args w v =
    let rest = without args_name ms in
    let lacks = lacks_put args_name id_name id rest apart (lacks_without args_name ms) in
    put_placed args_name args (put id_name id rest) [] (told_sorted args_name (put id_name id rest) ascii_args v) v
    ∙ ap (λ ns. place (args_name, canon args) (placed [] ns)) (without_lacking args_name (put id_name id rest) lacks)
    ∙ ap (place (args_name, canon args)) (put_placed id_name id rest [] (told_sorted id_name rest ascii_id w) w)

-- and by the rules
set_both : (ms : Members) (id new : Data) (change : Data → Data) → AreSortedMembers ms → AreSortedMembers (without (codes "args") ms)
    → placed [] (with_member (codes "args") change new (set_member (codes "command_id") id ms))
    ≡ place (codes "args", canon (option_map_or change (get_member (codes "args") ms) new)) (place (codes "command_id", canon id) (placed [] (without (codes "command_id") (without (codes "args") ms))))
set_both ms id new change w v =
    let rest = without args_name ms in
    let told = told_with args_name id_name (λ _. id) id apart ms (told_apart args_name id_name ascii_args (IsUtf8-from_ascii id_name ascii_id)) (told_sorted args_name ms ascii_args w) in
    let once = once_with args_name id_name (λ _. id) id apart ms (once_sorted args_name ms w) in
    with_placed args_name change new (set_member id_name id ms) [] told once
    ∙ ap (λ o. place (args_name, canon (option_map_or change o new)) (placed [] (without args_name (set_member id_name id ms)))) (get_with args_name id_name (λ _. id) id apart ms)
    ∙ ap (λ ns. place (args_name, canon (option_map_or change (get_member args_name ms) new)) (placed [] ns)) (without_with args_name id_name (λ _. id) id apart ms)
    ∙ ap (place (args_name, canon (option_map_or change (get_member args_name ms) new))) (set_placed id_name id rest ascii_id v)

pub addressed_put : (run issue : ℕ) (ms : Members) (id args : Data) → AreSortedMembers ms → AreSortedMembers (without (codes "args") ms)
    → AreSortedMembers (put (codes "command_id") id (without (codes "args") ms)) → id ≡ command_id run issue → canon args ≡ canon (completed_args (get_member (codes "args") ms))
    → canon (object (put (codes "args") args (put (codes "command_id") id (without (codes "args") ms)))) ≡ canon (addressed run issue (object ms))
addressed_put run issue ms id args w v u e f =
    same_text (put args_name args (put id_name id (without args_name ms))) (with_member args_name completed (completed (object no_members)) (set_member id_name (command_id run issue) ms))
    (put_both ms id args v u
    ∙ ap (λ t. place (args_name, t) (place (id_name, canon id) (placed [] (without id_name (without args_name ms))))) f
    ∙ ap (λ d. place (args_name, canon (completed_args (get_member args_name ms))) (place (id_name, canon d) (placed [] (without id_name (without args_name ms))))) e
    ∙ sym (set_both ms (command_id run issue) (completed (object no_members)) completed w v))

-- ---- by what the calls gave

pub completed_new : (ms new : Members) (k : List ℕ) (d : Data) → AreSortedMembers ms → k ≡ codes "response_requested" → d ≡ string (codes "complete") → new ≡ put k d ms
    → canon (object new) ≡ canon (completed (object ms))
completed_new ms new k d w n e f = ap (λ x. canon (object x)) f ∙ ap (λ k. canon (object (put k d ms))) n ∙ completed_put ms d w e

pub addressed_new : (run issue : ℕ) (ms rest middle new : Members) (id args : Data) (i a : List ℕ) → AreSortedMembers ms → rest ≡ without (codes "args") ms → AreSortedMembers rest
    → i ≡ codes "command_id" → id ≡ command_id run issue → middle ≡ put i id rest → AreSortedMembers middle
    → a ≡ codes "args" → canon args ≡ canon (completed_args (get_member (codes "args") ms)) → new ≡ put a args middle
    → canon (object new) ≡ canon (addressed run issue (object ms))
addressed_new run issue ms rest middle new id args i a w r v n e m u k f g =
    let same : middle ≡ put id_name id (without args_name ms) = m ∙ ap (λ k. put k id rest) n ∙ ap (put id_name id) r in
    ap (λ x. canon (object x)) (g ∙ ap (λ k. put k args middle) k ∙ ap (put args_name args) same)
    ∙ addressed_put run issue ms id args w (subst AreSortedMembers r v) (subst AreSortedMembers same u) e f
