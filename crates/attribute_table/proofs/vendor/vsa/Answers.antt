use Rattle.std.proofs.Common.{rules, tests, ◌≡◌, ◌<◌, false, true, None, Some, length, sym, ◌∙◌, ap, arith}
use Rattle.attribute_table.specs.Vendors.{are_parts, parts_behind, vendor_parts}
use Rattle.attribute_table.proofs.VendorLemmas.{AreOctets-from, vendor_parts-short, vendor_parts-empty, vendor_parts-read, vendor_in_front, reads_vendors}
use Rattle.attribute_table.proofs.vendor.vsa.Goals as goal
use Rattle.attribute_table.proofs.vendor.vsa.Goals.{then-is_empty-via-then-is_empty, then-is_empty-via-else-is_empty+then-not-are_parts}

pub returns-in_err-vendor : goal.returns-in_err-vendor
returns-in_err-vendor c =
    let value = c.args.value.now in
    let octets = AreOctets-from value (λ i. omega (arith, c.type_inv.value i)) in
    let none = vendor_parts-short value c.in_err-vendor.ensures.cases in
    let all = reads_vendors c.from_residual.result value octets (c.from_residual.ensures ∙ sym none) in
    record { exact = all.exact; found = all.found; only = all.only }

pub returns-then-is_empty : goal.returns-then-is_empty
returns-then-is_empty c =
    let value = c.args.value.now in
    let rest = c.in_ok-vendor.rest.now in
    let behind = c.in_ok-vendor.ensures.cases.2 in
    let octets = AreOctets-from value (λ i. omega (arith, c.type_inv.value i)) in
    let none : vendor_parts value ≡ None = elim c.then-is_empty.branch [
      | then-is_empty-via-then-is_empty w ↦ (let empty : length rest ≡ 0 = search (rules, tests) in vendor_parts-empty value rest behind empty)
      | then-is_empty-via-else-is_empty+then-not-are_parts w ↦ (let some : 0 < length rest = grind (arith, tests) in
          let broken : false ≡ are_parts 0 rest = w.if-not-are_parts.ensures in
          vendor_parts-read value rest false behind some broken)
    ] in
    let all = reads_vendors None value octets (sym none) in
    record { exact = all.exact; found = all.found; only = all.only }

pub returns : goal.returns
returns c =
    let value = c.args.value.now in
    let rest = c.in_ok-vendor.rest.now in
    let behind = c.in_ok-vendor.ensures.cases.2 in
    let octets = AreOctets-from value (λ i. omega (arith, c.type_inv.value i)) in
    let some : 0 < length rest = grind (arith, tests) in
    let are : true ≡ are_parts 0 rest = c.if-not-are_parts.ensures in
    let vendor = c.get_u32.ensures ∙ vendor_in_front value c.in_ok-vendor.vendor.now c.in_ok-vendor.ensures.cases.1 in
    let read = ap (λ n. Some (parts_behind n 0 rest)) vendor ∙ sym (vendor_parts-read value rest true behind some are) in
    let all = reads_vendors (Some (parts_behind c.get_u32.result 0 rest)) value octets read in
    record { exact = all.exact; found = all.found; only = all.only }
