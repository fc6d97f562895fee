-- The name characters that a text begins with.
use Rattle.std.proofs.Common.{◌≡◌, ℕ, ◌+◌, ◌<◌, Bool, true, false, cond, List, [], ◌∷◌, ◌++◌, length, take, drop, get_or, sym, ◌∙◌, ap, append_assoc}
use Rattle.std.proofs.lemmas.List.{append-nil, take_more, drop_more}
use Rattle.cacao_vars.specs.Names.{is_name_character}
use Rattle.cacao_vars.specs.References.{name_run}

run_here : (c : ℕ) (cs : List ℕ) → is_name_character c ≡ true → name_run (c ∷ cs) ≡ c ∷ name_run cs
run_here c cs e = ap (λ (b : Bool). cond b (c ∷ name_run cs) []) e

run_over : (c : ℕ) (cs : List ℕ) → is_name_character c ≡ false → name_run (c ∷ cs) ≡ []
run_over c cs e = ap (λ (b : Bool). cond b (c ∷ name_run cs) []) e

next : (text : List ℕ) (i c : ℕ) → i < length text → c ≡ get_or text i c → drop i text ≡ c ∷ drop (i + 1) text
next text i c lt is = drop_more text i c lt ∙ ap (λ (x : ℕ). x ∷ drop (i + 1) text) (sym is)

pub run_more : (text : List ℕ) (i c : ℕ) → i < length text → c ≡ get_or text i c → is_name_character c ≡ true
    → name_run text ≡ take i text ++ name_run (drop i text) → name_run text ≡ take (i + 1) text ++ name_run (drop (i + 1) text)
run_more text i c lt is e so_far =
    let more : take (i + 1) text ≡ take i text ++ c ∷ [] = take_more text i c lt ∙ ap (λ (x : ℕ). take i text ++ x ∷ []) (sym is) in
    so_far ∙ ap (λ (r : List ℕ). take i text ++ r) (ap name_run (next text i c lt is) ∙ run_here c (drop (i + 1) text) e)
    ∙ sym (append_assoc (take i text) (c ∷ []) (name_run (drop (i + 1) text)))
    ∙ sym (ap (λ (t : List ℕ). t ++ name_run (drop (i + 1) text)) more)

pub run_ends : (text : List ℕ) (i c : ℕ) → i < length text → c ≡ get_or text i c → is_name_character c ≡ false
    → name_run text ≡ take i text ++ name_run (drop i text) → take i text ≡ name_run text
run_ends text i c lt is e so_far =
    sym (so_far ∙ ap (λ (r : List ℕ). take i text ++ r) (ap name_run (next text i c lt is) ∙ run_over c (drop (i + 1) text) e) ∙ append-nil (take i text))
