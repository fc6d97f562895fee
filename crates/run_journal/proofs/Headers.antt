-- The header of a journal.
use Rattle.std.proofs.Common.{◌≡◌, ◌+◌, ◌-◌, ◌≤◌, ℕ, List, [], ◌∷◌, ◌++◌, length, take, drop, IsTrue, sym, ◌∙◌, ap, subst, arith, inl, append_assoc, length-append, length-drop, take-append-drop, get_or}
use Rattle.std.proofs.lemmas.List.{take_all, ext_get_or}
use Rattle.std.proofs.lemmas.List.Elements.{All-nil}
use Rattle.cacao_site.proofs.Beats.{each-weaken}
use Rattle.cacao_site.specs.DiskCalls.{IsLeft, IsDurable, EachBeat, AllLeft, TornSince, Written}
use Rattle.cacao_site.specs.View.{DiskView}
use Rattle.run_journal.specs.Layout.{header, length_field, entries, front, Entries, HasLayout, IsEntry, Stands}

-- the header and a closed gate
pub blank_layout : (image : List ℕ) → image ≡ header ++ 0 ∷ [] → HasLayout [] image
unfolding front entries
blank_layout image is = record { short = All-nil IsEntry; closed = record { gate = 0; rest = []; shut = omega arith; is = is }; within = omega (arith, ap length is) }

-- while it is written, where the file and the list are told by equations
module _ (a b : DiskView) (file inside_file : ℕ) (items : List (List ℕ)) (file_is : inside_file ≡ file) (blank : items ≡ []) (short : AllLeft file a (λ image. length image ≤ 9)) where
  pub prepare_beats : TornSince inside_file 0 9 a b → EachBeat file a b (λ image. Stands image items)
  prepare_beats torn =
      each-weaken (subst (λ f. TornSince f 0 9 a b) file_is torn)
      (λ told image from. let low : length from.0 ≤ 9 = short told from.0 from.1 in inl (omega (arith, low, from.2.no_longer), blank))

  pub prepare_written : (IsTrue a.told → IsLeft a file a.beat (a.reads file)) → (IsTrue b.told → IsTrue a.told) → IsDurable inside_file b → (IsTrue a.told → Written 0 (header ++ 0 ∷ []) (a.reads inside_file) (b.reads inside_file)) → AllLeft file b (HasLayout items)
  prepare_written sound back durable written told image left =
      let told_a : IsTrue a.told = back told in
      let low : length (a.reads file) ≤ 9 = short told_a (a.reads file) (sound told_a) in
      let is_written : Written 0 (header ++ 0 ∷ []) (a.reads file) (b.reads file) = subst (λ f. Written 0 (header ++ 0 ∷ []) (a.reads f) (b.reads f)) file_is (written told_a) in
      let reads : b.reads file ≡ header ++ 0 ∷ [] = ext_get_or 0 (b.reads file) (header ++ 0 ∷ []) (omega (arith, low, is_written.long)) (λ k lt. ap (λ n. get_or (b.reads file) n 0) (omega arith) ∙ is_written.there k (omega (arith, low, is_written.long, lt))) in
      let held : image ≡ b.reads file = subst (λ f. (i : List ℕ) → IsLeft b f b.beat i → i ≡ b.reads f) file_is durable image left in
      subst (λ (l : List (List ℕ)). HasLayout l image) (sym blank) (blank_layout image (held ∙ reads))

-- an image that begins with the header, and then has entries
pub list_split : (image : List ℕ) (items : List (List ℕ)) (rest : List ℕ) → take 8 image ≡ header → Entries (take (length image - 8) (drop 8 image)) items rest → image ≡ front items ++ rest
unfolding front
list_split image items rest same found =
    sym (take-append-drop 8 image)
    ∙ (λ i. same i ++ drop 8 image)
    ∙ ap (λ (l : List ℕ). header ++ l) (sym (take_all (length image - 8) (drop 8 image) (omega (arith, length-drop 8 image))) ∙ found.is)
    ∙ sym (append_assoc header (entries items) rest)

pub count-le : (items : List (List ℕ)) → length items + 8 ≤ length (front items)
unfolding front entries
count-le [] = omega arith
count-le (item ∷ items) =
    let sofar : length items + 8 ≤ length (front items) = count-le items in
    let whole : length (entries (item ∷ items)) ≡ length (1 ∷ (length_field (length item) ++ item)) + length (entries items) = length-append (1 ∷ (length_field (length item) ++ item)) (entries items) in
    omega (arith, whole, sofar)
