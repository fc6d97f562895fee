-- Entries that are taken off the front.
use Rattle.std.proofs.Common.{◌≡◌, ℕ, ◌-◌, List, [], ◌∷◌, ◌++◌, length, drop, refl, sym, ◌∙◌, ap, arith, append_assoc, length-append}
use Rattle.std.proofs.lemmas.List.{drop_at}
use Rattle.std.proofs.lemmas.List.Elements.{All-append}
use Rattle.run_journal.specs.Layout.{header, length_field, entries, front, Entries, Begins, IsEntry}

pub entries-append : (xs ys : List (List ℕ)) → entries (xs ++ ys) ≡ entries xs ++ entries ys
unfolding entries
entries-append [] ys = refl
entries-append (x ∷ xs) ys =
    ap (λ (l : List ℕ). (1 ∷ length_field (length x)) ++ x ++ l) (entries-append xs ys)
    ∙ sym (append_assoc ((1 ∷ length_field (length x)) ++ x) (entries xs) (entries ys))

pub front-append : (xs ys : List (List ℕ)) → front (xs ++ ys) ≡ front xs ++ entries ys
unfolding front
front-append xs ys = ap (λ (l : List ℕ). header ++ l) (entries-append xs ys) ∙ sym (append_assoc header (entries xs) (entries ys))

-- entries of the tail join those before it
pub begins_more : {image tail rest : List ℕ} {items more : List (List ℕ)} → Begins image items tail → Entries tail more rest → Begins image (items ++ more) rest
begins_more {image} {tail} {rest} {items} {more} was has = record {
  short = All-append IsEntry items more was.short has.short;
  is =
      was.is ∙ ap (λ (l : List ℕ). front items ++ l) has.is
      ∙ sym (append_assoc (front items) (entries more) rest)
      ∙ ap (λ (l : List ℕ). l ++ rest) (sym (front-append items more));
}

-- what stands behind the entries
pub rest_there : {bytes rest : List ℕ} {items : List (List ℕ)} (n : ℕ) → Entries bytes items rest → n ≡ length bytes - length rest → drop n bytes ≡ rest
rest_there {bytes} {rest} {items} n has is =
    (λ i. drop n (has.is i)) ∙ drop_at (entries items) rest n (omega (arith, is, ap length has.is, length-append (entries items) rest))
