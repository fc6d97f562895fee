-- One entry more in the layout of a list.
use Rattle.std.proofs.Common.{◌≡◌, inl, inr, ⊎_elim, ℕ, zero, suc, take, ◌+◌, ◌/◌, ◌%◌, ◌≤◌, ◌<◌, List, [], ◌∷◌, ◌++◌, length, refl, sym, ◌∙◌, ap, subst, arith, append_assoc, length-append, All, IsTrue}
use Rattle.std.proofs.lemmas.List.{append-nil}
use Rattle.std.proofs.lemmas.List.Elements.{All-nil, All-push}
use Rattle.cacao_site.specs.View.{DiskView}
use Rattle.cacao_site.specs.DiskCalls.{IsLeft, EachBeat, AllLeft}
use Rattle.cacao_site.proofs.Beats.{each-weaken, each-now}
use Rattle.run_journal.specs.Layout.{header, length_field, entries, front, IsClosed, HasOpened, IsClosedOrOpened, HasLayout, IsWithin, BeforeOrAfter, block_for, length_of, Entries, IsEntry, most_entry}

pub entries-push : (items : List (List ℕ)) (item : List ℕ) → entries (items ++ item ∷ []) ≡ entries items ++ 1 ∷ (length_field (length item) ++ item)
unfolding entries
entries-push [] item = append-nil (1 ∷ (length_field (length item) ++ item))
entries-push (x ∷ items) item =
    ap (λ (l : List ℕ). (1 ∷ length_field (length x)) ++ x ++ l) (entries-push items item)
    ∙ sym (append_assoc ((1 ∷ length_field (length x)) ++ x) (entries items) (1 ∷ (length_field (length item) ++ item)))

pub front-push : (items : List (List ℕ)) (item : List ℕ) → front (items ++ item ∷ []) ≡ front items ++ 1 ∷ (length_field (length item) ++ item)
unfolding front
front-push items item = ap (λ (l : List ℕ). header ++ l) (entries-push items item) ∙ sym (append_assoc header (entries items) (1 ∷ (length_field (length item) ++ item)))

pub length-front-push : (items : List (List ℕ)) (item : List ℕ) → length (front (items ++ item ∷ [])) ≡ length (front items) + (5 + length item)
length-front-push items item =
    let block = length_field (length item) ++ item in
    let size : length block ≡ 4 + length item = length-append (length_field (length item)) item in
    let whole : length (front (items ++ item ∷ [])) ≡ length (front items) + length (1 ∷ block) = ap length (front-push items item) ∙ length-append (front items) (1 ∷ block) in
    omega arith

-- an open block stands for the entry
opened_is : (items : List (List ℕ)) (item image : List ℕ) → HasOpened (front items) (block_for item) image → IsClosed (front (items ++ item ∷ [])) image
opened_is items item image has =
    let block = length_field (length item) ++ item in
    record {
      gate = 0;
      rest = has.0;
      shut = omega arith;
      is =
          has.1
          ∙ ap (λ (l : List ℕ). front items ++ 1 ∷ l) (append_assoc block (0 ∷ []) has.0)
          ∙ sym (append_assoc (front items) (1 ∷ block) (0 ∷ has.0))
          ∙ ap (λ (l : List ℕ). l ++ 0 ∷ has.0) (sym (front-push items item));
    }

pub opened_layout : (items : List (List ℕ)) (item image : List ℕ) → All IsEntry items → IsEntry item → IsWithin image → HasOpened (front items) (block_for item) image → HasLayout (items ++ item ∷ []) image
opened_layout items item image short fits within has = record { short = All-push IsEntry items item short fits; closed = opened_is items item image has; within = within }

each-both : {a b : DiskView} {file : ℕ} {P Q : List ℕ → Type 0} → EachBeat file a b P → EachBeat file a b Q → EachBeat file a b (λ image. P image × Q image)
each-both p q = record {
  goes_on = p.goes_on;
  each = λ told beat image from until left. (p.each told beat image from until left, q.each told beat image from until left);
}

-- what holds of the blocks holds of the lists, where the file and the block are told by equations
module _ (a b : DiskView) (file inside_file gate : ℕ) (items : List (List ℕ)) (item block : List ℕ) (file_is : inside_file ≡ file) (size : length (front items) ≡ gate) (block_is : block ≡ block_for item) (short : All IsEntry items) (fits : IsEntry item) (ready : AllLeft file a (HasLayout items)) where
  closed : AllLeft inside_file a (IsClosed (front items))
  closed told image left = (ready told image (subst (λ f. IsLeft a f a.beat image) file_is left)).closed

  within : AllLeft inside_file a IsWithin
  within told image left = (ready told image (subst (λ f. IsLeft a f a.beat image) file_is left)).within

  pub append_beats : ((start : List ℕ) → length start ≡ gate → AllLeft inside_file a (IsClosed start) → EachBeat inside_file a b (IsClosedOrOpened start block))
      → (AllLeft inside_file a IsWithin → EachBeat inside_file a b IsWithin) → EachBeat file a b (BeforeOrAfter items item)
  append_beats beats stays_within =
      let inside : EachBeat inside_file a b (IsClosedOrOpened (front items) block) = beats (front items) size closed in
      let for_item : EachBeat inside_file a b (IsClosedOrOpened (front items) (block_for item)) = subst (λ (l : List ℕ). EachBeat inside_file a b (IsClosedOrOpened (front items) l)) block_is inside in
      let both : EachBeat inside_file a b (λ image. IsClosedOrOpened (front items) (block_for item) image × IsWithin image) = each-both for_item (stays_within within) in
      each-weaken (subst (λ f. EachBeat f a b (λ image. IsClosedOrOpened (front items) (block_for item) image × IsWithin image)) file_is both)
      (λ told image has. ⊎_elim (λ shut. inl (record { short = short; closed = shut; within = has.1 })) (λ open_gate. inr (opened_layout items item image short fits has.1 open_gate)) has.0)

  pub append_durable : ((start : List ℕ) → length start ≡ gate → AllLeft inside_file a (IsClosed start) → AllLeft inside_file b (HasOpened start block))
      → (AllLeft inside_file a IsWithin → EachBeat inside_file a b IsWithin) → AllLeft file b (HasLayout (items ++ item ∷ []))
  append_durable has stays_within told image left =
      let left_inside : IsLeft b inside_file b.beat image = subst (λ f. IsLeft b f b.beat image) (sym file_is) left in
      let beats : EachBeat inside_file a b IsWithin = stays_within within in
      let short_image : IsWithin image = each-now beats (subst IsTrue beats.goes_on.told told) image left_inside in
      opened_layout items item image short fits short_image (subst (λ (l : List ℕ). HasOpened (front items) l image) block_is (has (front items) size closed told image left_inside))

-- four bytes and the length that they say
pub field_of : (a b c d : ℕ) → a < 256 → b < 256 → c < 256 → d < 256 → length_field (length_of a b c d) ≡ a ∷ b ∷ c ∷ d ∷ []
field_of a b c d p q r s =
    let one : length_of a b c d / 16777216 % 256 ≡ a = omega arith in
    let two : length_of a b c d / 65536 % 256 ≡ b = omega arith in
    let three : length_of a b c d / 256 % 256 ≡ c = omega arith in
    let four : length_of a b c d % 256 ≡ d = omega arith in
    λ i. one i ∷ two i ∷ three i ∷ four i ∷ []

-- before the first entry
pub entries_none : (bytes : List ℕ) → Entries bytes [] bytes
unfolding entries
entries_none bytes = record { short = All-nil IsEntry; is = refl }

-- one entry more
pub entries_more : (bytes : List ℕ) (items : List (List ℕ)) (rest item after : List ℕ) → Entries bytes items rest → length item ≤ most_entry → rest ≡ 1 ∷ length_field (length item) ++ item ++ after → Entries bytes (items ++ item ∷ []) after
entries_more bytes items rest item after so_far short is = record {
  short = All-push IsEntry items item so_far.short short;
  is =
      so_far.is ∙ ap (λ (l : List ℕ). entries items ++ l) is
      ∙ sym (append_assoc (entries items) (1 ∷ (length_field (length item) ++ item)) after)
      ∙ ap (λ (l : List ℕ). l ++ after) (sym (entries-push items item));
}

-- ---- places

-- a front of a list takes no more bytes
entries-le : (i : ℕ) (items : List (List ℕ)) → length (entries (take i items)) ≤ length (entries items)
unfolding entries
entries-le zero items = omega arith
entries-le (suc i) [] = omega arith
entries-le (suc i) (x ∷ items) =
    omega (arith, entries-le i items, length-append (1 ∷ (length_field (length x) ++ x)) (entries (take i items)), length-append (1 ∷ (length_field (length x) ++ x)) (entries items))

pub front-le : (i : ℕ) (items : List (List ℕ)) → length (front (take i items)) ≤ length (front items)
unfolding front
front-le i items = omega (arith, entries-le i items, length-append header (entries (take i items)), length-append header (entries items))
