use Rattle.std.proofs.Common.{append_assoc}
use Rattle.run_records.specs.Layout.{layout}
use Rattle.run_records.proofs.writing.put_told.Goals as goal

pub returns : goal.returns
unfolding layout
returns c =
    rw (
      c.in_ok-put_string.ensures,
      c.as_slice.ensures,
      c.in_ok-extend_from_slice-3.ensures.items,
      c.to_be_bytes-3.ensures,
      c.in_ok-extend_from_slice-2.ensures.items,
      c.to_be_bytes-2.ensures,
      c.in_ok-extend_from_slice.ensures.items,
      c.to_be_bytes.ensures,
      c.in_ok-push.ensures.items,
    )
    (simp append_assoc)
