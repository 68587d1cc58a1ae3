-- Lines from outside, and what is shown of them; settings from outside, as lines.
use Rattle.std.proofs.Common.{◌≡◌, [], ◌∷◌, true, false, Some, None, Ok, Err, codes, refl}
use Rattle.std.specs.Fmt.{digits}
use Rattle.wire_core.specs.Numbers.{number, u16, u32}
use Rattle.hex.specs.Hex.{decode_pairs, encode_with}
use Rattle.radius_packet.specs.Packet.{packet_text, read_attributes, read_packet}
use Rattle.diameter_avp.specs.Avps.{avp_items, items_at, items_from, read_avp}
use Rattle.diameter_message.specs.Message.{read_message}
use Rattle.printed_lines.specs.Show.{show_line}
use Rattle.printed_lines.specs.SettingsText.{settings_text}

show_line-packet : show_line (codes "radius 01050026000102030405060708090a0b0c0d0e0f01066e656d6f20066e617331050600000003")
    ≡ Ok (codes "radius 1 5 38\nattribute 1 6e656d6f\nattribute 32 6e617331\nattribute 5 00000003\n")
unfolding digits number u16 decode_pairs encode_with packet_text read_attributes read_packet
show_line-packet = refl

show_line-message : show_line (codes "diameter 01000084000001010000000080000000007000000000010c4000000c000007d10000010840000014686f6d652e6578616d706c65000001284000000f6578616d706c6500000001014000000e0001c000020200000000010a4000000c000000000000010d0000000c686f6d65000001024000000c00000001000001034000000c00000003")
    ≡ Ok (codes "diameter 00 257 0 2147483648 7340032\navp 268 40 0 000007d1\navp 264 40 0 686f6d652e6578616d706c65\navp 296 40 0 6578616d706c65\navp 257 40 0 0001c0000202\navp 266 40 0 00000000\navp 269 00 0 686f6d65\navp 258 40 0 00000001\navp 259 40 0 00000003\n")
unfolding digits number decode_pairs encode_with avp_items items_at items_from read_avp read_message
show_line-message = refl

show_line-short : show_line (codes "radius 0105") ≡ Ok (codes "fault 1 Short\n")
unfolding digits number decode_pairs read_packet
show_line-short = refl

-- the place of the second AVP is counted from the first
show_line-place : show_line (codes "diameter 01000024800001010000000080000000007000000000010c4000000c000007d100000108")
    ≡ Ok (codes "diameter 80 257 0 2147483648 7340032\navp 268 40 0 000007d1\nfault 1 Short 12\n")
unfolding digits number decode_pairs encode_with avp_items items_at items_from read_avp read_message
show_line-place = refl

-- the V flag is set, and there are no octets
show_line-vendor : show_line (codes "diameter 01000020c0000109000000010000000000700000000000018000000c00000009")
    ≡ Ok (codes "diameter c0 265 1 0 7340032\navp 1 80 9 -\n")
unfolding digits number decode_pairs encode_with avp_items items_at items_from read_avp read_message
show_line-vendor = refl

show_line-nothing : show_line [] ≡ Err 2
show_line-nothing = refl

show_line-name : show_line (codes "tacacs 0g") ≡ Err 2
show_line-name = refl

show_line-digits : show_line (codes "radius 0g") ≡ Err 3
unfolding decode_pairs
show_line-digits = refl

settings_text-example : settings_text (record {
  host = codes "agent.example";
  realm = codes "example";
  home_realm = codes "example";
  address = 3221225985;
  boot = Some 7;
  retention = 30000;
  patience = 30000;
  capacity = 4096;
  backlog = 4096;
  watchdog = 30000;
  clients = record {
    name = codes "nas1";
    address = 3232235792;
    secret = codes "xyzzy5461";
    origin_host = codes "nas1.example";
    origin_realm = codes "example";
    require_seal = false;
    omit_keys = false;
    nas = [];
  } ∷ [];
})
    ≡ codes "agent agent.example example example 192.0.2.1 7 30000 4096 4096 30000 30000\nclient nas1 192.168.1.16 78797a7a7935343631 nas1.example example plain refuse -\n"
unfolding digits u32 encode_with
settings_text-example = refl

-- no boot is set, and each choice is the other one
settings_text-choices : settings_text (record {
  host = codes "a";
  realm = codes "b";
  home_realm = codes "c";
  address = 1;
  boot = None;
  retention = 2000;
  patience = 1000;
  capacity = 1;
  backlog = 2;
  watchdog = 6000;
  clients = record {
    name = codes "d";
    address = 2;
    secret = codes "s";
    origin_host = codes "e";
    origin_realm = codes "f";
    require_seal = true;
    omit_keys = true;
    nas = 3221225986 ∷ 3221225987 ∷ [];
  } ∷ [];
})
    ≡ codes "agent a b c 0.0.0.1 0 2000 1 2 6000 1000\nclient d 0.0.0.2 73 e f seal omit 192.0.2.2,192.0.2.3\n"
unfolding digits u32 encode_with
settings_text-choices = refl
