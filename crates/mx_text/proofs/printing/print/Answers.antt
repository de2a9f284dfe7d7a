use Rattle.std.proofs.Common.{rules, arith, ◌≡◌, ◌≤◌, ◌<◌, ◌^◌, length, vec_len, codes}
use Rattle.mx_text.proofs.PrintingLaws.{on_err, short_heading, entries_cut, parts_sent, parts_cut, cut_memory, cut_part, end_cut, end_sent}
use Rattle.mx_text.proofs.printing.print.Goals as goal

pub print_entries-requires : goal.print_entries-requires
print_entries-requires g c =
    let few : length c.items-entries.result.now < 2 ^ 64 = search rules in
    let eight : length (codes "journal ") ≤ 8 = omega arith in
    let short : length c.add_heading.new.out.items ≤ 32768
    = short_heading _ _ (codes "journal ") (length c.items-entries.result.now) c.new-buffer.ensures.items c.in_ok-add_heading.ensures eight few in
    let same : vec_len c.add_heading.new.out ≡ length c.add_heading.new.out.items = search rules in
    omega (arith, short, same)

pub returns-in_err-print_entries-clause-part : goal.returns-in_err-print_entries-clause-part
returns-in_err-print_entries-clause-part g c =
    rw (← c.items-entries.ensures)
    (on_err _ (entries_cut _ _ _ _ _ _ _ _ c.new-buffer.ensures.items c.in_ok-add_heading.ensures c.in_err-print_entries.ensures.part))

pub returns-in_err-print_parts-clause-part : goal.returns-in_err-print_parts-clause-part
returns-in_err-print_parts-clause-part g c =
    rw (← c.items-entries.ensures, ← c.items.ensures)
    (on_err _ (parts_cut _ _ _ _ _ _ _ _ _ _ c.new-buffer.ensures.items c.in_ok-add_heading.ensures
    c.in_ok-print_entries.ensures.sent c.in_err-print_parts.ensures.part))

pub returns-in_err-extend_from_slice-clause-part : goal.returns-in_err-extend_from_slice-clause-part
returns-in_err-extend_from_slice-clause-part g c =
    rw (← c.items-entries.ensures, ← c.items.ensures)
    (on_err _ (cut_part _ _ _ (cut_memory _ _ _ _ _ (parts_sent _ _ _ _ _ _ _ _ _ _ c.new-buffer.ensures.items c.in_ok-add_heading.ensures
    c.in_ok-print_entries.ensures.sent c.in_ok-print_parts.ensures.sent) (omega arith))))

pub returns-in_err-write_all-clause-part : goal.returns-in_err-write_all-clause-part
returns-in_err-write_all-clause-part g c =
    rw (← c.items-entries.ensures, ← c.items.ensures)
    (on_err _ (end_cut _ _ _ _ _ _ _ (parts_sent _ _ _ _ _ _ _ _ _ _ c.new-buffer.ensures.items c.in_ok-add_heading.ensures
    c.in_ok-print_entries.ensures.sent c.in_ok-print_parts.ensures.sent) c.in_ok-extend_from_slice.ensures.items
    (rw c.deref.ensures.value at c.in_err-write_all.ensures.part)))

pub returns-clause-printed : goal.returns-clause-printed
returns-clause-printed g c =
    rw (← c.items-entries.ensures, ← c.items.ensures)
    (end_sent _ _ _ _ _ _ _ (parts_sent _ _ _ _ _ _ _ _ _ _ c.new-buffer.ensures.items c.in_ok-add_heading.ensures
    c.in_ok-print_entries.ensures.sent c.in_ok-print_parts.ensures.sent) c.in_ok-extend_from_slice.ensures.items
    (rw c.deref.ensures.value at c.in_ok-write_all.ensures.all))
