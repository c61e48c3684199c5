-- The lines of the prints, entry by entry.
use Rattle.std.proofs.Common.{◌≡◌, ℤ, List, [], ◌∷◌, ◌++◌, map, refl, sym, ap, ◌∙◌, append_assoc}
use Rattle.std.specs.List.{flat_map}
use Rattle.std.specs.Fmt.{signed_decimal}
use Rattle.core_language.specs.Rounds.{printed, prints_of}
use Rattle.chan_machine.specs.declared.events.Entry.{Entry}
use Rattle.chan_machine.specs.Reading.{entry_of}
use Rattle.chanl_lines.specs.Lines.{line, print_lines, entry_lines}

print_lines-append : (xs ys : List ℤ) → print_lines (xs ++ ys) ≡ print_lines xs ++ print_lines ys
print_lines-append [] ys = refl
print_lines-append (x ∷ xs) ys =
    ap (λ rest. line (signed_decimal x) ++ rest) (print_lines-append xs ys) ∙ sym (append_assoc (line (signed_decimal x)) (print_lines xs) (print_lines ys))

pub by_entries : (es : List Entry) → flat_map (λ e. entry_lines (entry_of e)) es ≡ print_lines (prints_of (map entry_of es))
by_entries [] = refl
by_entries (e ∷ es) =
    ap (λ rest. entry_lines (entry_of e) ++ rest) (by_entries es)
    ∙ sym (print_lines-append (printed (entry_of e).event) (prints_of (map entry_of es)))
