-- What entries read as, one entry after another.
use Rattle.std.proofs.Common.{◌≡◌, ℕ, zero, suc, ◌+◌, ◌<◌, ◌≤◌, List, [], ◌∷◌, ◌++◌, length, take, get_or, Option, Some, None, refl, sym, ap, subst, ◌∙◌, arith, inr}
use Rattle.std.specs.Prelude.{IsSome, slice_get, option_map}
use Rattle.std.specs.List.{AllByRecursion}
use Rattle.std.proofs.lemmas.List.{length-map, take_all, take_more}
use Rattle.std.proofs.lemmas.Option.{get_or_from_slice_get, none-some, same_Some, slice_get-map, slice_get_read}
use Rattle.run_journal.specs.Image.{ArePlaced, bytes_of}
use Rattle.run_journal.specs.Layout.{Stands}
use Rattle.run_journal.specs.declared.entries.Entry.{Entry}
use Rattle.run_records.specs.Fields.{◌>>=◌}
use Rattle.run_records.specs.Lists.{all_read}
use Rattle.flow_audit.specs.Files.{IsUnreadable}
use Rattle.flow_audit.specs.Parts.{IsFileOf}

bytes_at : (entries : List Entry) (n : ℕ) (e : Entry) → n < length entries → e ≡ get_or entries n e → slice_get (bytes_of entries) n ≡ Some e.bytes
bytes_at entries n e lt is =
    slice_get-map (λ (x : Entry). x.bytes) entries n ∙ ap (option_map (λ (x : Entry). x.bytes)) (slice_get_read entries (length entries) n e refl lt is)

module _ {A : Type 0} where
  push_by : (o : Option A) (rest more : Option (List A)) (values : List A) (value : A) → (o >>= (λ f. rest >>= (λ os. Some (f ∷ os)))) ≡ Some values
      → ((vs : List A) → rest ≡ Some vs → more ≡ Some (vs ++ value ∷ [])) → (o >>= (λ f. more >>= (λ os. Some (f ∷ os)))) ≡ Some (values ++ value ∷ [])
  push_by None rest more values value e ih = absurd (none-some values e)
  push_by (Some f) None more values value e ih = absurd (none-some values e)
  push_by (Some f) (Some vs) more values value e ih =
      ap (λ (o : Option (List A)). o >>= (λ os. Some (f ∷ os))) (ih vs refl) ∙ ap (λ (l : List A). Some (l ++ value ∷ [])) (same_Some (f ∷ vs) values e)

  -- one entry more
  pub read_push : (read : List ℕ → Option A) (entries : List (List ℕ)) (entry : List ℕ) (values : List A) (value : A) → all_read read entries ≡ Some values
      → read entry ≡ Some value → all_read read (entries ++ entry ∷ []) ≡ Some (values ++ value ∷ [])
  read_push read [] entry values value all one =
      ap (λ (o : Option A). o >>= (λ f. Some (f ∷ []))) one ∙ ap (λ (l : List A). Some (l ++ value ∷ [])) (same_Some [] values all)
  read_push read (x ∷ xs) entry values value all one =
      push_by (read x) (all_read read xs) (all_read read (xs ++ entry ∷ [])) values value all (λ vs e. read_push read xs entry vs value e one)

  front_by : (o : Option A) (rest more : Option (List A)) (values : List A) → (o >>= (λ f. more >>= (λ os. Some (f ∷ os)))) ≡ Some values
      → ((vs : List A) → more ≡ Some vs → IsSome rest) → IsSome (o >>= (λ f. rest >>= (λ os. Some (f ∷ os))))
  front_by None rest more values e ih = absurd (none-some values e)
  front_by (Some f) rest None values e ih = absurd (none-some values e)
  front_by (Some f) None (Some vs) values e ih = ih vs refl
  front_by (Some f) (Some os) (Some vs) values e ih = refl

  -- a front of entries that read reads
  pub read_front : (read : List ℕ → Option A) (xs ys : List (List ℕ)) (values : List A) → all_read read (xs ++ ys) ≡ Some values → IsSome (all_read read xs)
  read_front read [] ys values e = refl
  read_front read (x ∷ xs) ys values e = front_by (read x) (all_read read xs) (all_read read (xs ++ ys)) values e (λ vs more. read_front read xs ys vs more)

  heads_by : (o : Option A) (rest : Option (List A)) (values : List A) → (o >>= (λ f. rest >>= (λ os. Some (f ∷ os)))) ≡ Some values
      → (f : A) × (vs : List A) × (o ≡ Some f) × (rest ≡ Some vs) × (values ≡ f ∷ vs)
  heads_by None rest values e = absurd (none-some values e)
  heads_by (Some f) None values e = absurd (none-some values e)
  heads_by (Some f) (Some vs) values e = (f, vs, refl, refl, sym (same_Some (f ∷ vs) values e))

  -- each of them reads
  pub read_at : (read : List ℕ → Option A) (xs : List (List ℕ)) (values : List A) (n : ℕ) (x : List ℕ) → all_read read xs ≡ Some values → slice_get xs n ≡ Some x → read x ≡ None → ⊥
  read_at read [] values n x all there none = none-some x there
  read_at read (y ∷ xs) values zero x all there none =
      let h = heads_by (read y) (all_read read xs) values all in
      none-some h.0 (sym none ∙ ap read (sym (same_Some y x there)) ∙ h.2)
  read_at read (y ∷ xs) values (suc n) x all there none =
      let h = heads_by (read y) (all_read read xs) values all in
      read_at read xs h.1 n x h.3 there none

  -- there are as many
  pub read_length : (read : List ℕ → Option A) (xs : List (List ℕ)) (values : List A) → all_read read xs ≡ Some values → length values ≡ length xs
  read_length read [] values all = ap length (sym (same_Some [] values all))
  read_length read (x ∷ xs) values all =
      let h = heads_by (read x) (all_read read xs) values all in
      ap length h.4 ∙ ap suc (read_length read xs h.1 h.3)

  all_push : (P : A → Type 0) (xs : List A) (x : A) → AllByRecursion P xs → P x → AllByRecursion P (xs ++ x ∷ [])
  all_push P [] x all here = (here, tt)
  all_push P (y ∷ ys) x all here = (all.0, all_push P ys x all.1 here)

  -- ---- a loop over entries

  pub record ReadUpTo (read : List ℕ → Option A) (InRange : A → Type 0) (entries : List Entry) (n : ℕ) (values : List A) : Type 0 where
    pub reads : all_read read (take n (bytes_of entries)) ≡ Some values
    pub ranges : AllByRecursion InRange values

  pub read_none : (read : List ℕ → Option A) (InRange : A → Type 0) (entries : List Entry) → ReadUpTo read InRange entries 0 []
  read_none read InRange entries = record { reads = refl; ranges = tt }

  pub read_more : (read : List ℕ → Option A) (InRange : A → Type 0) (entries : List Entry) (n : ℕ) (e : Entry) (values : List A) (value : A) → n < length entries → e ≡ get_or entries n e
      → ReadUpTo read InRange entries n values → read e.bytes ≡ Some value → InRange value → ReadUpTo read InRange entries (n + 1) (values ++ value ∷ [])
  read_more read InRange entries n e values value lt is so_far one fits =
      let long : n < length (bytes_of entries) = omega (arith, length-map entries (λ (x : Entry). x.bytes), lt) in
      let more : take (n + 1) (bytes_of entries) ≡ take n (bytes_of entries) ++ e.bytes ∷ [] =
      take_more (bytes_of entries) n e.bytes long ∙ ap (λ (b : List ℕ). take n (bytes_of entries) ++ b ∷ []) (get_or_from_slice_get (bytes_of entries) n e.bytes e.bytes (bytes_at entries n e lt is)) in
      record {
        reads = ap (all_read read) more ∙ read_push read (take n (bytes_of entries)) e.bytes values value so_far.reads one;
        ranges = all_push InRange values value so_far.ranges fits;
      }

  -- all entries were read
  pub read_whole : (read : List ℕ → Option A) (InRange : A → Type 0) (image : List ℕ) (entries : List Entry) (n : ℕ) (values : List A) → length entries ≤ n → Stands image (bytes_of entries) → ArePlaced entries
      → ReadUpTo read InRange entries n values → IsFileOf read InRange image entries values
  read_whole read InRange image entries n values all stands placed so_far =
      let whole : take n (bytes_of entries) ≡ bytes_of entries = take_all n (bytes_of entries) (omega (arith, length-map entries (λ (x : Entry). x.bytes), all)) in
      record { stands = stands; placed = placed; reads = ap (all_read read) (sym whole) ∙ so_far.reads; ranges = so_far.ranges }

  -- one was not
  pub read_stray : (read : List ℕ → Option A) (InRange : A → Type 0) (image : List ℕ) (entries : List Entry) (n : ℕ) (e : Entry) (values : List A) → n < length entries → e ≡ get_or entries n e
      → Stands image (bytes_of entries) → ArePlaced entries → ReadUpTo read InRange entries n values → read e.bytes ≡ None → IsUnreadable read image e.place
  read_stray read InRange image entries n e values lt is stands placed so_far none = inr (record {
    entries = bytes_of entries;
    n = n;
    stray = e.bytes;
    stands = stands;
    there = bytes_at entries n e lt is;
    unread = none;
    before = subst IsSome (sym so_far.reads) refl;
    at = placed n e (slice_get_read entries (length entries) n e refl lt is);
  })

  pub many_read : (read : List ℕ → Option A) (InRange : A → Type 0) (image : List ℕ) (entries : List Entry) (values : List A) → IsFileOf read InRange image entries values → length entries ≡ length values
  many_read read InRange image entries values is =
      sym (length-map entries (λ (x : Entry). x.bytes)) ∙ sym (read_length read (bytes_of entries) values is.reads)
