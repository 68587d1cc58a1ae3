use Rattle.std.proofs.Common.{◌∷◌, [], ◌++◌, codes, ap, ◌∙◌}
use Rattle.printed_lines.specs.SettingsText.{addresses_text, seal_name, keys_name}
use Rattle.printed_lines.specs.Text.{address_text, hex_text}
use Rattle.printed_lines.proofs.SettingsTextLemmas.{worded, last_word, eight_words}
use Rattle.printed_lines.proofs.settings_printing.client_line.Goals as goal

pub returns : goal.returns
returns c =
    let name = worded _ _ _ _ _ c.in_ok-push_word.ensures c.in_ok-line.ensures.items c.as_slice-2.ensures in
    let address = worded _ _ _ _ _ c.in_ok-push_word-2.ensures name (c.as_slice-3.ensures.value ∙ c.in_ok-address.ensures) in
    let secret = worded _ _ _ _ _ c.in_ok-push_hex_word.ensures address (ap hex_text c.as_slice-4.ensures) in
    let host = worded _ _ _ _ _ c.in_ok-push_word-3.ensures secret c.as_slice-5.ensures in
    let realm = worded _ _ _ _ _ c.in_ok-push_word-4.ensures host c.as_slice-6.ensures in
    let seal = worded _ _ _ _ _ c.in_ok-push_word-5.ensures realm (c.as_bytes.ensures.value ∙ c.seal_name.ensures) in
    let keys = worded _ _ _ _ _ c.in_ok-push_word-6.ensures seal (c.as_bytes-2.ensures.value ∙ c.keys_name.ensures) in
    let nas = last_word _ _ _ _ _ c.in_ok-extend_from_slice.ensures.items keys
    (c.as_slice-7.ensures.value ∙ c.in_ok-nas.ensures ∙ ap addresses_text c.as_slice.ensures) in
    let client = c.args.client.now in
    c.in_ok-push.ensures.items ∙ ap (λ t. t ++ 10 ∷ []) nas
    ∙ eight_words (codes "client ") client.name (address_text client.address) (hex_text client.secret) client.origin_host
    client.origin_realm (seal_name client.require_seal) (keys_name client.omit_keys) (addresses_text client.nas)
