-- The opening of a file whose first block was read.
use Rattle.std.proofs.Common.{◌≡◌, ◌≢◌, ℕ, ◌+◌, ◌≤◌, ◌<◌, IsTrue, List, [], ◌++◌, length, get_or, take, drop, sym, ◌∙◌, ap, arith, inl, inr, length-take, take-append-drop, subst}
use Rattle.std.proofs.lemmas.List.{get_or-take, take-append-le}
use Rattle.cacao_site.specs.View.{SiteView}
use Rattle.run_journal.specs.Blocks.{OnlyReads}
use Rattle.run_journal.specs.Layout.{header, front, most_image, IsDamagedAt}

-- a block is no longer than the file
pub block_low : (reads block : List ℕ) (n : ℕ) → block ≡ take n reads → length block ≤ length reads
block_low reads block n is = omega (arith, ap length is, length-take n reads)

-- a header that differs in the first block
pub header_differs : (reads block : List ℕ) (place : ℕ) → block ≡ take 4096 reads → 9 < length block → length reads ≤ most_image → place < 8 → take place block ≡ take place header → get_or block place 0 ≢ get_or header place 0
    → IsDamagedAt reads place
header_differs reads block place is long fits lt same differs =
    let within : place ≤ length (take 4096 reads) = omega (arith, lt, long, ap length is) in
    let shorter : take place (take 4096 reads) ≡ take place reads = sym (take-append-le place (take 4096 reads) (drop 4096 reads) within) ∙ ap (take place) (take-append-drop 4096 reads) in
    let here : get_or block place 0 ≡ get_or reads place 0 = ap (λ (l : List ℕ). get_or l place 0) is ∙ get_or-take 4096 reads place 0 (omega (arith, lt)) in
    let low = block_low reads block 4096 is in
    inr (inl (omega (arith, long, low), fits, lt, sym shorter ∙ ap (take place) (sym is) ∙ same, λ e. differs (here ∙ e)))

-- the header was cut off the first block
pub header_again : (reads block start : List ℕ) → block ≡ take 4096 reads → take 8 block ≡ header → start ≡ drop 8 block → header ++ start ≡ take 4096 reads
header_again reads block start is same cut = (λ i. sym same i ++ cut i) ∙ take-append-drop 8 block ∙ is

-- what the first block is, told by the clause of its call
pub block_is : (reads old block : List ℕ) → old ≡ [] → ((before : List ℕ) → before ++ old ≡ take 0 reads → before ++ block ≡ take (0 + 4096) reads) → block ≡ take 4096 reads
block_is reads old block none add =
    let all : 0 + 4096 ≡ 4096 = omega arith in
    add [] none ∙ ap (λ n. take n reads) all

-- a file of which all was read: its first block, and what the rest gave
pub all_read : (a b : SiteView) (file size end : ℕ) (block start tail : List ℕ) (items : List (List ℕ)) → OnlyReads 1 a b → IsTrue a.disk.told → size ≡ length (a.disk.reads file) → end ≡ size → block ≡ take 4096 (a.disk.reads file)
    → take 8 block ≡ header → start ≡ drop 8 block
    → (IsTrue b.disk.told → end ≡ length (b.disk.reads file) → header ++ start ≡ take 4096 (b.disk.reads file) → front items ++ tail ≡ b.disk.reads file)
    → front items ++ tail ≡ a.disk.reads file
all_read a b file size end block start tail items call told long whole is same cut rest =
    let stays : b.disk.reads file ≡ a.disk.reads file = (call.stays file).reads in
    rest (subst IsTrue (sym call.goes_on.told) told) (whole ∙ long ∙ ap length (sym stays)) (header_again (b.disk.reads file) block start (is ∙ ap (take 4096) (sym stays)) same cut) ∙ stays
