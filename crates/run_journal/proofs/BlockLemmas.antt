-- A file that is read block after block.
use Rattle.std.proofs.Common.{◌≡◌, ◌+◌, ◌-◌, ◌*◌, ◌≤◌, min, ℕ, List, [], ◌++◌, length, take, drop, All, IsTrue, refl, sym, ◌∙◌, ap, subst, arith, inl, inr, append_assoc, length-append}
use Rattle.std.proofs.lemmas.Bool.{cases_eq, cases_lt}
use Rattle.std.proofs.lemmas.List.{take_all}
use Rattle.std.proofs.lemmas.List.Elements.{All-nil}
use Rattle.std.proofs.Math.Seq.{take-add}
use Rattle.cacao_site.proofs.Beats.{goes_on-refl, goes_on-trans, stays-trans, rest-refl, rest-trans}
use Rattle.cacao_site.specs.DiskCalls.{StaysAt, SameRest, CallsOn}
use Rattle.cacao_site.specs.View.{DiskView, SiteView}
use Rattle.run_journal.specs.Blocks.{OnlyReads}
use Rattle.run_journal.specs.Layout.{IsEntry, Begins, entries, front, header}

-- before the first call
pub reads_none : (a : SiteView) → OnlyReads 0 a a
reads_none a = record {
  goes_on = goes_on-refl a.disk;
  stays = λ file. record { reads = refl; images = λ beat image from to. ap (λ n. a.disk.left file n image) (omega (arith, from, to)) };
  rest = rest-refl a;
  calls = omega arith;
  written = omega arith;
}

-- calls behind calls
pub reads_then : {m n : ℕ} {a b c : SiteView} → OnlyReads m a b → OnlyReads n b c → OnlyReads (m + n) a c
reads_then p q = record {
  goes_on = goes_on-trans p.goes_on q.goes_on;
  stays = λ file. stays-trans p.goes_on q.goes_on (p.stays file) (q.stays file);
  rest = rest-trans p.rest q.rest;
  calls = omega (arith, p.calls, q.calls);
  written = omega (arith, p.written, q.written);
}

-- more calls at most
pub reads_most : {m n : ℕ} {a b : SiteView} → m ≤ n → OnlyReads m a b → OnlyReads n a b
reads_most le p = record { goes_on = p.goes_on; stays = p.stays; rest = p.rest; calls = omega (arith, le, p.calls); written = p.written }

-- after the first block and so many more of a file, of which the first block is the header and the start
pub record IsReadUpTo (file end blocks : ℕ) (start : List ℕ) (old new : SiteView) (items : List (List ℕ)) (tail : List ℕ) (ends : ℕ) : Type 0 where
  pub only : OnlyReads blocks old new
  pub faults : new.disk.faults ≡ old.disk.faults
  pub short : All IsEntry items
  pub long : length (front items ++ tail) ≡ min (4096 * (blocks + 1)) ends
  pub high : ends ≤ end
  pub is : IsTrue old.disk.told → end ≡ length (old.disk.reads file) → header ++ start ≡ take 4096 (old.disk.reads file)
      → (ends ≡ end) × (front items ++ tail ≡ take (4096 * (blocks + 1)) (old.disk.reads file))

-- a call that leaves its own file alone leaves each
pub call_stays : {a b : DiskView} {file m : ℕ} → CallsOn file m a b → StaysAt a b file → (any : ℕ) → StaysAt a b any
call_stays {a} {b} {file} call stays any = elim (cases_eq any file) [
  | inl same ↦ subst (λ f. StaysAt a b f) (sym same) stays
  | inr ne ↦ call.others any ne
]

-- one call is a call that reads
pub reads_once : {a b : SiteView} {file : ℕ} → CallsOn file 0 a.disk b.disk → StaysAt a.disk b.disk file → SameRest a b → OnlyReads 1 a b
reads_once call stays rest = record {
  goes_on = call.goes_on;
  stays = call_stays call stays;
  rest = rest;
  calls = call.calls;
  written = omega (arith, call.written);
}

-- one block more
pub next_block : (reads before old part new : List ℕ) (at wanted end : ℕ) → end ≡ length reads → at ≤ end → wanted ≡ min (end - at) 4096 → part ≡ take wanted (drop at reads) → new ≡ old ++ part → before ++ old ≡ take at reads → before ++ new ≡ take (at + 4096) reads
next_block reads before old part new at wanted end size le want second is first =
    let capped : take (at + wanted) reads ≡ take (at + 4096) reads = elim (cases_lt 4096 (end - at)) [
      | inl lt ↦ ap (λ n. take (at + n) reads) (omega arith)
      | inr ge ↦ take_all (at + wanted) reads (omega arith) ∙ sym (take_all (at + 4096) reads (omega arith))
    ] in
    ap (λ (l : List ℕ). before ++ l) is ∙ sym (append_assoc before old part) ∙ (λ i. first i ++ second i) ∙ sym (take-add at wanted reads) ∙ capped

-- a place within a file or at its end takes as much as one past it
pub take_within : (reads : List ℕ) (n ends : ℕ) → ends ≡ length reads → take n reads ≡ take (min ends n) reads
take_within reads n ends long = elim (cases_lt n ends) [
  | inl lt ↦ ap (λ k. take k reads) (omega arith)
  | inr ge ↦ take_all n reads (omega arith) ∙ sym (take_all (min ends n) reads (omega arith))
]

-- before the loop
pub first_block : (file end : ℕ) (start : List ℕ) (old : SiteView) → 8 + length start ≡ min 4096 end → IsReadUpTo file end 0 start old old [] start end
unfolding front entries
first_block file end start old long = record {
  only = reads_none old;
  faults = refl;
  short = All-nil IsEntry;
  long = omega (arith, long);
  high = omega arith;
  is = λ told size is. (refl, is);
}

-- one block more
pub more_blocks : (file end i : ℕ) (start : List ℕ) (old mid new : SiteView) (items more : List (List ℕ)) (tail behind next : List ℕ) (at ends after : ℕ)
    → IsReadUpTo file end i start old mid items tail ends → Begins (front items ++ tail) more behind → at ≡ min ends (4096 * (i + 1))
    → OnlyReads 1 mid new → new.disk.faults ≡ mid.disk.faults → (at ≤ after) × (after ≤ ends) → at + length next ≡ length behind + min (at + 4096) after
    → (IsTrue mid.disk.told → ends ≡ length (mid.disk.reads file)
    → (after ≡ ends) × ((before : List ℕ) → before ++ behind ≡ take at (mid.disk.reads file) → before ++ next ≡ take (at + 4096) (mid.disk.reads file)))
    → IsReadUpTo file end (i + 1) start old new more next after
more_blocks file end i start old mid new items more tail behind next at ends after was begins place call faults low long image = record {
  only = reads_then was.only call;
  faults = faults ∙ was.faults;
  short = begins.short;
  long =
      let all : length (front more) + length behind ≡ min (4096 * (i + 1)) ends = sym (length-append (front more) behind) ∙ ap length (sym begins.is) ∙ was.long in
      omega (arith, all, length-append (front more) next, long, low.0, low.1, place);
  high = omega (arith, low.1, was.high);
  is = λ told size is.
      let so_far = was.is told size is in
      let reads : List ℕ = old.disk.reads file in
      let same : mid.disk.reads file ≡ reads = (was.only.stays file).reads in
      let size_now : ends ≡ length reads = so_far.0 ∙ size in
      let step = image (subst IsTrue (sym was.only.goes_on.told) told) (size_now ∙ ap length (sym same)) in
      let here : front more ++ behind ≡ take at reads = sym begins.is ∙ so_far.1 ∙ take_within reads (4096 * (i + 1)) ends size_now ∙ ap (λ k. take k reads) (sym place) in
      let then : front more ++ next ≡ take (at + 4096) reads = step.1 (front more) (here ∙ ap (take at) (sym same)) ∙ ap (take (at + 4096)) same in
      let ahead : take (at + 4096) reads ≡ take (4096 * (i + 1 + 1)) reads = elim (cases_lt ends (4096 * (i + 1))) [
        | inl past ↦ take_all (at + 4096) reads (omega arith) ∙ sym (take_all (4096 * (i + 1 + 1)) reads (omega arith))
        | inr within ↦ ap (λ k. take k reads) (omega arith)
      ] in
      (step.0 ∙ so_far.0, then ∙ ahead);
}

-- all blocks of the file
pub whole_file : (file end blocks : ℕ) (start : List ℕ) (old new : SiteView) (items : List (List ℕ)) (tail : List ℕ) (ends : ℕ) → IsReadUpTo file end blocks start old new items tail ends → ends ≤ 4096 * (blocks + 1)
    → IsTrue old.disk.told → end ≡ length (old.disk.reads file) → header ++ start ≡ take 4096 (old.disk.reads file) → front items ++ tail ≡ old.disk.reads file
whole_file file end blocks start old new items tail ends was all told size is =
    let up_to = was.is told size is in
    up_to.1 ∙ take_all (4096 * (blocks + 1)) (old.disk.reads file) (omega (arith, all, size, up_to.0))
