-- Lines from outside, as outputs are printed.
use Rattle.std.proofs.Common.{◌≡◌, [], ◌∷◌, codes, refl}
use Rattle.std.specs.Fmt.{digits}
use Rattle.wire_core.specs.Numbers.{u32}
use Rattle.hex.specs.Hex.{encode_with}
use Rattle.radius_packet.specs.declared.reasons.Via.TheVariants.{Auth}
use Rattle.agent_events.specs.declared.events.Output.TheVariants.{Reply}
use Rattle.printed_lines.specs.Text.{control_line, drop_line, end_line, end_line_with_controls, output_line}

output_line-reply : output_line 5 (Reply Auth 3232235792 1812 (2 ∷ 5 ∷ 0 ∷ 66 ∷ 251 ∷ 207 ∷ 191 ∷ 42 ∷ 179 ∷ 189 ∷ 244 ∷ 7 ∷ 246 ∷ 211 ∷ 113 ∷ 131 ∷ 181 ∷ 139 ∷ 0 ∷ 22 ∷ 80 ∷ 18 ∷ 151 ∷ 15 ∷ 117 ∷ 200 ∷ 47 ∷ 3 ∷ 253 ∷ 99 ∷ 88 ∷ 88 ∷ 134 ∷ 77 ∷ 13 ∷ 197 ∷ 136 ∷ 168 ∷ 25 ∷ 28 ∷ 68 ∷ 105 ∷ 97 ∷ 109 ∷ 101 ∷ 116 ∷ 101 ∷ 114 ∷ 47 ∷ 97 ∷ 103 ∷ 101 ∷ 110 ∷ 116 ∷ 46 ∷ 101 ∷ 120 ∷ 97 ∷ 109 ∷ 112 ∷ 108 ∷ 101 ∷ 59 ∷ 55 ∷ 59 ∷ 48 ∷ []))
    ≡ codes "5 reply auth 192.168.1.16 1812 02050042fbcfbf2ab3bdf407f6d37183b58b00165012970f75c82f03fd635858864d0dc588a8191c4469616d657465722f6167656e742e6578616d706c653b373b30\n"
unfolding digits encode_with u32
output_line-reply = refl

end_line-example : end_line 1 1 0 ≡ codes "end 1 1 0\n"
unfolding digits
end_line-example = refl

control_line-example : control_line 5 3232235792 3799 (41 ∷ 171 ∷ 0 ∷ []) ≡ codes "5 control 192.168.1.16 3799 29ab00\n"
unfolding digits encode_with u32
control_line-example = refl

drop_line-example : drop_line 7 26 (codes "AbortOpen") ≡ codes "7 drop 26 AbortOpen\n"
unfolding digits
drop_line-example = refl

end_line_with_controls-example : end_line_with_controls 0 2 0 1 ≡ codes "end 0 2 0 1\n"
unfolding digits
end_line_with_controls-example = refl
