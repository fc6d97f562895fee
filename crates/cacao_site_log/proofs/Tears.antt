-- A file since its last sync.
use Rattle.std.proofs.Common.{◌≡◌, ℕ, suc, ◌+◌, ◌<◌, ◌≤◌, ◌==◌, if◌then◌else◌, Bool, true, false, IsTrue, List, [], ◌∷◌, ◌++◌, length, take, drop, replicate, slice_index_or, All, refl, sym, ◌∙◌, ap, subst, arith, inl, inr, get_or, Result, Ok, Err, IfOk}
use Rattle.std.specs.List.{AllWithin}
use Rattle.std.proofs.lemmas.Bool.{cases_eq}
use Rattle.std.proofs.lemmas.Bool.{ne_eqb}
use Rattle.std.proofs.lemmas.List.{map-append, take-append-drop, take_all, get_or_default}
use Rattle.std.proofs.Math.ListN.{get_or-append}
use Rattle.cacao_site_log.specs.declared.entry.Entry.{Entry}
use Rattle.cacao_site_log.specs.declared.entry.Entry.TheVariants.{Looked, Wrote, Tried, Synced}
use Rattle.cacao_site_log.specs.Entries.{call_of, calls_of, IsNoSync, IsAsSynced, IsRestAt}
use Rattle.cacao_site_log.specs.Images.{IsGood, image-from, good-all, good-rest}
use Rattle.cacao_site_log.specs.Replay.{Call, FileState, at_rest, after, after_all, is_image}
use Rattle.cacao_site_log.proofs.Logged.{after-flushed}
use Rattle.cacao_site_log.proofs.ReplayLemmas.{file_at, file_at-zero, file_at-more}

pub rests-zero : (file : ℕ) (entries : List Entry) → IsRestAt file entries 0
rests-zero file entries bytes start =
    let e = file_at-zero file (at_rest start) bytes entries in
    e ∙ ap (λ (s : FileState). at_rest s.reads) (sym e)

pub rests-sync : (file : ℕ) (entries : List Entry) (i : ℕ) (d : Entry) → i < length entries → slice_index_or entries i d ≡ Synced file → IsRestAt file entries (i + 1)
rests-sync file entries i d lt is bytes start =
    let before : FileState = file_at file (at_rest start) bytes entries i in
    let e : file_at file (at_rest start) bytes entries (i + 1) ≡ at_rest before.reads = file_at-more file (at_rest start) bytes entries i d lt ∙ ap (λ (entry : Entry). after file before (call_of bytes entry)) is ∙ after-flushed file before in
    e ∙ ap (λ (s : FileState). at_rest s.reads) (sym e)

after_all-append : (file : ℕ) (state : FileState) (front back : List Call) → after_all file state (front ++ back) ≡ after_all file (after_all file state front) back
unfolding after_all
after_all-append file state [] back = refl
after_all-append file state (call ∷ front) back = after_all-append file (after file state call) front back

-- the file after all entries, from what the last sync left
pub since_sync : (file : ℕ) (start synced bytes : List ℕ) (entries : List Entry) (n : ℕ) → IsRestAt file entries n → synced ≡ (file_at file (at_rest start) bytes entries n).reads
    → after_all file (at_rest start) (calls_of bytes entries) ≡ after_all file (at_rest synced) (calls_of bytes (drop n entries))
since_sync file start synced bytes entries n rests is =
    ap (λ (l : List Entry). after_all file (at_rest start) (calls_of bytes l)) (sym (take-append-drop n entries))
    ∙ ap (after_all file (at_rest start)) (map-append (call_of bytes) (take n entries) (drop n entries))
    ∙ after_all-append file (at_rest start) (calls_of bytes (take n entries)) (calls_of bytes (drop n entries))
    ∙ ap (λ (s : FileState). after_all file s (calls_of bytes (drop n entries))) (rests bytes start ∙ ap at_rest (sym is))

choose_synced : (b : Bool) (s t : FileState) → s.synced ≡ t.synced → (if b then s else t).synced ≡ t.synced
choose_synced true s t e = e
choose_synced false s t e = refl

synced-after : (file : ℕ) (state : FileState) (bytes : List ℕ) (entry : Entry) → IsNoSync file entry → (after file state (call_of bytes entry)).synced ≡ state.synced
synced-after file state bytes Looked h = refl
synced-after file state bytes (Wrote other at start end) h = choose_synced (other == file) _ _ refl
synced-after file state bytes (Tried other at size) h = choose_synced (other == file) _ _ refl
synced-after file state bytes (Synced other) h = ap (λ b. (if b then at_rest state.reads else state).synced) (ne_eqb other file h)

pub synced-all : (file : ℕ) (state : FileState) (bytes : List ℕ) (entries : List Entry) → All (IsNoSync file) entries → (after_all file state (calls_of bytes entries)).synced ≡ state.synced
unfolding after_all
synced-all file state bytes [] h = refl
synced-all file state bytes (entry ∷ later) h =
    synced-all file (after file state (call_of bytes entry)) bytes later (λ k d lt. h (suc k) d (omega arith))
    ∙ synced-after file state bytes entry (h 0 entry (omega arith))

-- an image that is as synced where it must be
pub left-from : (file : ℕ) (synced bytes image : List ℕ) (entries : List Entry) → All (IsNoSync file) entries → IsAsSynced (after_all file (at_rest synced) (calls_of bytes entries)) image
    → length synced ≤ length image → length image ≤ (after_all file (at_rest synced) (calls_of bytes entries)).longest → IsTrue (is_image (after_all file (at_rest synced) (calls_of bytes entries)) image)
left-from file synced bytes image entries none is low high =
    image-from (after_all file (at_rest synced) (calls_of bytes entries)) image
    (record { no_shorter = omega (arith, ap length (synced-all file (at_rest synced) bytes entries none), low); no_longer = high; agrees = is })

-- what the last sync left is an image
pub synced-left : (file : ℕ) (synced bytes : List ℕ) (entries : List Entry) → All (IsNoSync file) entries → IsTrue (is_image (after_all file (at_rest synced) (calls_of bytes entries)) synced)
synced-left file synced bytes entries none =
    let state : FileState = after_all file (at_rest synced) (calls_of bytes entries) in
    let same : state.synced ≡ synced = synced-all file (at_rest synced) bytes entries none in
    let good : IsGood state = good-all file (at_rest synced) (calls_of bytes entries) (good-rest synced) in
    left-from file synced bytes synced entries none (λ k lt. inr (ap (λ (l : List ℕ). get_or l k 0) (sym same))) (omega arith) (omega (arith, good.room, ap length same))

-- what a file reads as is an image
pub reads-left : (file : ℕ) (start bytes : List ℕ) (entries : List Entry) → IsTrue (is_image (after_all file (at_rest start) (calls_of bytes entries)) (after_all file (at_rest start) (calls_of bytes entries)).reads)
reads-left file start bytes entries =
    let state : FileState = after_all file (at_rest start) (calls_of bytes entries) in
    image-from state state.reads (good-all file (at_rest start) (calls_of bytes entries) (good-rest start)).image

-- the image at the last sync is an image after what came since
pub synced-since : (file : ℕ) (start synced bytes : List ℕ) (entries : List Entry) (n : ℕ) → IsRestAt file entries n → All (IsNoSync file) (drop n entries) → synced ≡ (file_at file (at_rest start) bytes entries n).reads
    → IsTrue (is_image (after_all file (at_rest start) (calls_of bytes entries)) synced) × (synced ≡ (after_all file (at_rest start) (calls_of bytes entries)).synced)
synced-since file start synced bytes entries n rests none is =
    let since = since_sync file start synced bytes entries n rests is in (
      subst (λ (s : FileState). IsTrue (is_image s synced)) (sym since) (synced-left file synced bytes (drop n entries) none),
      sym (ap (λ (s : FileState). s.synced) since ∙ synced-all file (at_rest synced) bytes (drop n entries) none),
    )

pub if_ok : {T E : Type 0} (r : Result T E) {P Q : T → Type 0} → ((x : T) → P x → Q x) → IfOk r P → IfOk r Q
if_ok (Ok x) f h = f x h
if_ok (Err e) f h = h

-- the bytes that a longer file begins with
pub as_synced-longer : (synced : List ℕ) (n m : ℕ) → length synced ≤ n → IsAsSynced (at_rest synced) (take n synced ++ replicate m 0)
as_synced-longer synced n m le k lt =
    inr (ap (λ (l : List ℕ). get_or (l ++ replicate m 0) k 0) (take_all n synced le) ∙ get_or-append synced (replicate m 0) 0 k lt)

pub longest-ge : (file : ℕ) (synced bytes : List ℕ) (entries : List Entry) → All (IsNoSync file) entries → length synced ≤ (after_all file (at_rest synced) (calls_of bytes entries)).longest
longest-ge file synced bytes entries none =
    let good : IsGood (after_all file (at_rest synced) (calls_of bytes entries)) = good-all file (at_rest synced) (calls_of bytes entries) (good-rest synced) in
    omega (arith, good.room, ap length (synced-all file (at_rest synced) bytes entries none))

-- where no entry from `found` up to i is a sync, and the next is none
pub none-more : (file : ℕ) (entries : List Entry) (found i : ℕ) (d : Entry) → i < length entries → AllWithin (IsNoSync file) entries found i → IsNoSync file (slice_index_or entries i d) → AllWithin (IsNoSync file) entries found (i + 1)
none-more file entries found i d lt none here k e low high = elim (cases_eq k i) [
  | inl same ↦ subst (λ j. IsNoSync file (slice_index_or entries j e)) (sym same) (subst (IsNoSync file) (get_or_default entries i d e lt) here)
  | inr ne ↦ none k e low (omega (arith, ne, high))
]
