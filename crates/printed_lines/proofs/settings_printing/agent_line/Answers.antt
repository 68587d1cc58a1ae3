use Rattle.std.proofs.Common.{append_assoc}
use Rattle.printed_lines.proofs.settings_printing.agent_line.Goals as goal

pub returns : goal.returns
returns c =
    simp (
      c.in_ok-extend_from_slice.ensures.items,
      c.in_ok-push_word-4.ensures,
      c.in_ok-push_word-3.ensures,
      c.in_ok-push_word-2.ensures,
      c.in_ok-push_word.ensures,
      c.in_ok-line.ensures.items,
      c.as_slice.ensures,
      c.as_slice-2.ensures,
      c.as_slice-3.ensures,
      c.as_slice-4.ensures.value,
      c.in_ok-address.ensures,
      c.as_bytes.ensures.value,
      c.in_ok-end.ensures.ok,
      c.unwrap_or-boot.ensures,
      append_assoc,
    )
