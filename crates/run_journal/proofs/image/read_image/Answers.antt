-- An image stands for a list, or is damaged at one place.
use Rattle.std.proofs.Common.{Err, ap, inr, inl, ⊎_elim}
use Rattle.run_journal.specs.Image.{bytes_of}
use Rattle.run_journal.specs.declared.error.ImageError.{ImageError}
use Rattle.run_journal.proofs.LayoutLaws.{no_list_where_damaged}
use Rattle.run_journal.proofs.ImageLemmas.{refused_there}
use Rattle.run_journal.proofs.PlaceLaws.{layout_stands}
use Rattle.run_journal.proofs.image.read_image.Goals as goal

pub returns-in-Ok-clause-damaged_only : goal.returns-in-Ok-clause-damaged_only
returns-in-Ok-clause-damaged_only c = λ place damaged.
    absurd (no_list_where_damaged c.args.bytes.now place (bytes_of c.in-Ok.found.entries.items) damaged
    (layout_stands c.args.bytes.now (bytes_of c.in-Ok.found.entries.items) c.in-Ok.ensures.layout))

pub returns-in-Err-clause-damaged_only : goal.returns-in-Err-clause-damaged_only
returns-in-Err-clause-damaged_only c = λ place damaged.
    ⊎_elim (λ is. inl (ap (λ (e : ImageError). Err e) is)) (λ is. inr (ap (λ (e : ImageError). Err e) is))
    (refused_there c.args.bytes.now place c.in-Err.error (λ at is. c.in-Err.ensures.damaged at (ap (λ (e : ImageError). Err e) is)) damaged)
