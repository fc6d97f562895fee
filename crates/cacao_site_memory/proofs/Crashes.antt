-- The files after a crash.
use Rattle.std.proofs.Common.{◌≡◌, ℕ, ◌+◌, ◌-◌, ◌<◌, ◌≤◌, List, [], length, take, slice_index_or, IsTrue, refl, sym, ◌∙◌, ap, subst, arith}
use Rattle.std.proofs.lemmas.List.{take_all}
use Rattle.cacao_site.specs.Counts.{count_after}
use Rattle.cacao_site_memory.specs.Crash.{ArePicked}
use Rattle.cacao_site.specs.DiskCalls.{IsLeft, IsDurable}
use Rattle.cacao_site_log.specs.Images.{rest-image}
use Rattle.cacao_site_log.specs.Replay.{Call, FileState, after_all, file_after, is_image, disk_view, at_rest}
use Rattle.cacao_site.specs.View.{DiskView}

-- the file before any call
started : (files : List (List ℕ)) (file : ℕ) → file_after files [] file ≡ at_rest (slice_index_or files file [])
unfolding after_all
started files file = refl

-- an image of a disk on which no call was made is what the file holds
started-image : (files : List (List ℕ)) (beat file at : ℕ) (image : List ℕ) → IsLeft (disk_view files [] beat 0 0 0 0) file at image → image ≡ slice_index_or files file []
started-image files beat file at image left =
    let e : file_after files (take (at - beat) []) file ≡ at_rest (slice_index_or files file []) = ap (λ (l : List Call). file_after files l file) (take_all (at - beat) [] (omega arith)) ∙ started files file in
    rest-image (slice_index_or files file []) image (subst (λ (s : FileState). IsTrue (is_image s image)) e left)

module _ (starts : List (List ℕ)) (log : List Call) (start made calls written faults choice beat : ℕ) (files : List (List ℕ)) (disk : DiskView) (is : disk ≡ disk_view files [] beat 0 0 0 0) where
  pub crash-left : start + length log ≤ count_after start made → ArePicked starts log choice files → (file : ℕ) (image : List ℕ) → file < length files
      → IsLeft disk file disk.beat image → IsLeft (disk_view starts log start made calls written faults) file (count_after start made) image
  crash-left whole picked file image lt left =
      let held : image ≡ slice_index_or files file [] = started-image files beat file (count_after beat 0) image (subst (λ (d : DiskView). IsLeft d file d.beat image) is left) in
      subst (λ (l : List Call). IsTrue (is_image (file_after starts l file) image)) (sym (take_all (count_after start made - start) log (omega arith)))
      (subst (λ (i : List ℕ). IsTrue (is_image (file_after starts log file) i)) (sym held) (picked file lt).left)

  pub crash-reads : (file : ℕ) → disk.reads file ≡ slice_index_or files file []
  crash-reads file = ap (λ (d : DiskView). d.reads file) is ∙ ap (λ (s : FileState). s.reads) (started files file)

  pub crash-durable : (file : ℕ) → IsDurable file disk
  crash-durable file image left = started-image files beat file (count_after beat 0) image (subst (λ (d : DiskView). IsLeft d file d.beat image) is left) ∙ sym (crash-reads file)

  pub crash-image : start + length log ≤ count_after start made → ArePicked starts log choice files → (file : ℕ) → file < length files
      → IsLeft (disk_view starts log start made calls written faults) file (count_after start made) (disk.reads file)
  crash-image whole picked file lt =
      subst (λ (l : List Call). IsTrue (is_image (file_after starts l file) (disk.reads file))) (sym (take_all (count_after start made - start) log (omega arith)))
      (subst (λ (i : List ℕ). IsTrue (is_image (file_after starts log file) i)) (sym (crash-reads file)) (picked file lt).left)
