-- What is told of the first text that has no tree, of texts of which the first one is tried.
use Rattle.std.proofs.Common.{◌≡◌, ◌∙◌, inl, inr, sym, ap, subst, arith, ℕ, ◌+◌, ◌<◌, List, [], ◌∷◌, length, map, drop, get_or, drop-cons, Some, Ok, Err}
use Rattle.serde_json.specs.Data.{Data}
use Rattle.cacao_json.specs.Refusals.{IsAnswerOrMemory, answer}
use Rattle.cacao_json.specs.declared.error.JsonError.{JsonError}
use Rattle.cacao_json.specs.declared.error.JsonError.TheVariants.{NotJson, RepeatedName, NotWhole, Memory}
use Rattle.cacao_cli_ends.specs.Files.{NamedText}
use Rattle.cacao_view_words.specs.Texts.{Text}
use Rattle.cacao_view_faults.specs.Kinds.{IsFaultAt, IsOfNoKind}
use Rattle.cacao_view_faults.specs.Tokens.{IsBrokenNumber, IsTwice}
use Rattle.cacao_view_explain.specs.Lines.{text_line, told_line}
use Rattle.cacao_view_explain.specs.Reasons.{TellsNoPlace, TellsReason}
use Rattle.cacao_view_explain.specs.Tells.{TellsUnread, first_unread, unread_or}

-- ---- lines

tells_no_place : (text : NamedText) (what : Text) (lines : List Text) → IsOfNoKind what → lines ≡ text_line text.name what ∷ [] → TellsNoPlace text lines
tells_no_place text what lines plain are = record { what = what; plain = plain; are = are }

pub untold_not_json : (text : NamedText) (what : Text) (lines : List Text) → IsOfNoKind what → lines ≡ text_line text.name what ∷ [] → TellsReason text NotJson lines
untold_not_json text what lines plain are = inr (tells_no_place text what lines plain are)

pub untold_twice : (text : NamedText) (colons members : ℕ) (what : Text) (lines : List Text) → IsOfNoKind what → lines ≡ text_line text.name what ∷ [] → TellsReason text (RepeatedName colons members) lines
untold_twice text colons members what lines plain are = inr (tells_no_place text what lines plain are)

pub untold_number : (text : NamedText) (index : ℕ) (what : Text) (lines : List Text) → IsOfNoKind what → lines ≡ text_line text.name what ∷ [] → TellsReason text (NotWhole index) lines
untold_number text index what lines plain are = inr (tells_no_place text what lines plain are)

pub tells_fault_at : (text : NamedText) (at : ℕ) (what : Text) (lines : List Text) → IsFaultAt text.bytes at what → lines ≡ told_line text at what ∷ [] → TellsReason text NotJson lines
tells_fault_at text at what lines fault are = inl (record { at = at; what = what; fault = fault; are = are })

pub tells_number : (text : NamedText) (at index : ℕ) (what : Text) (lines : List Text) → IsBrokenNumber text.bytes index at → lines ≡ told_line text at what ∷ [] → TellsReason text (NotWhole index) lines
tells_number text at index what lines broken are = inl (record { at = at; broken = broken; what = what; are = are })

pub tells_twice : (text : NamedText) (first second colons members : ℕ) (here there : Text) (one : Text) (other : Text) (lines : List Text) → IsTwice text.bytes first second
    → one ≡ told_line text first here → other ≡ told_line text second there → lines ≡ one ∷ other ∷ [] → TellsReason text (RepeatedName colons members) lines
tells_twice text first second colons members here there one other lines twice one_is other_is are =
    inl (record { first = first; second = second; twice = twice; here = here; there = there; are = are ∙ ap (λ (l : Text). l ∷ other ∷ []) one_is ∙ ap (λ (l : Text). told_line text first here ∷ l ∷ []) other_is })

-- ---- texts

unread_here : (text : NamedText) (texts : List NamedText) (why : JsonError) → answer text.bytes ≡ Err why → first_unread (text ∷ texts) ≡ Some (text, why)
unread_here text texts why e = ap (unread_or text (first_unread texts)) e

read_here : (text : NamedText) (texts : List NamedText) (root : Data) → answer text.bytes ≡ Ok root → first_unread (text ∷ texts) ≡ first_unread texts
read_here text texts root e = ap (unread_or text (first_unread texts)) e

split : {A : Type 0} (f : A → NamedText) (xs : List A) (i : ℕ) (x : A) → i < length xs → x ≡ get_or xs i x → map f (drop i xs) ≡ f x ∷ map f (drop (i + 1) xs)
split f xs i x lt is = ap (map f) (let here : drop i xs ≡ get_or xs i x ∷ drop (i + 1) xs = grind (arith, drop-cons) in here) ∙ ap (λ y. f y ∷ map f (drop (i + 1) xs)) (sym is)

-- the text at a place has a tree, and none before it has none
pub read_at : {A : Type 0} (f : A → NamedText) (xs : List A) (i : ℕ) (x : A) (root : Data) → i < length xs → x ≡ get_or xs i x → answer (f x).bytes ≡ Ok root
    → first_unread (map f (drop i xs)) ≡ first_unread (map f xs) → first_unread (map f (drop (i + 1) xs)) ≡ first_unread (map f xs)
read_at f xs i x root lt is has so =
    sym (read_here (f x) (map f (drop (i + 1) xs)) root has) ∙ ap first_unread (sym (split f xs i x lt is)) ∙ so

-- the text at a place has none
reason_here : (text : NamedText) (texts : List NamedText) (why : JsonError) (lines : List Text) → IsAnswerOrMemory (Err why) (answer text.bytes) → TellsReason text why lines
    → TellsUnread (first_unread (text ∷ texts)) lines
reason_here text texts NotJson lines e tells = subst (λ o. TellsUnread o lines) (sym (unread_here text texts NotJson e)) tells
reason_here text texts (RepeatedName colons members) lines e tells = subst (λ o. TellsUnread o lines) (sym (unread_here text texts (RepeatedName colons members) e)) tells
reason_here text texts (NotWhole index) lines e tells = subst (λ o. TellsUnread o lines) (sym (unread_here text texts (NotWhole index) e)) tells
reason_here text texts Memory lines e tells = absurd tells

pub unread_at : {A : Type 0} (f : A → NamedText) (xs : List A) (i : ℕ) (x : A) (why : JsonError) (lines : List Text) → i < length xs → x ≡ get_or xs i x
    → IsAnswerOrMemory (Err why) (answer (f x).bytes) → first_unread (map f (drop i xs)) ≡ first_unread (map f xs) → TellsReason (f x) why lines → TellsUnread (first_unread (map f xs)) lines
unread_at f xs i x why lines lt is answers so tells =
    subst (λ o. TellsUnread o lines) (sym (ap first_unread (split f xs i x lt is)) ∙ so) (reason_here (f x) (map f (drop (i + 1) xs)) why lines answers tells)
