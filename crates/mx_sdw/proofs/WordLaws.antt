-- Words give back what was put into them.
use Rattle.std.proofs.Common.{◌≡◌, ℕ, ◌<◌, ◌≤◌, ◌^◌, Bool, true, false, rules}
use Rattle.mx_sdw.specs.Descriptors.{Descriptor}
use Rattle.mx_sdw.specs.Rings.{Bracketing}
use Rattle.mx_sdw.specs.declared.descriptors.Aim.{Aim}
use Rattle.mx_sdw.specs.declared.descriptors.Aim.TheVariants.{Equal, Dominates, Neither}
use Rattle.mx_sdw.specs.declared.descriptors.DescKind.{DescKind}
use Rattle.mx_sdw.specs.declared.descriptors.DescKind.TheVariants as desc_kind
use Rattle.mx_sdw.specs.declared.descriptor_words.DescView.TheVariants.{Unknown, Fault, Set, Gone}
use Rattle.mx_sdw.specs.CellWords.{cell_word, value_in, writer_in, stamp_in}
use Rattle.mx_sdw.specs.DescriptorWords.{desc_word, desc_view, FitsWord}
use Rattle.mx_sdw.specs.declared.descriptor_words.DescView.{DescView}

abbrev described : DescKind → Bracketing → Bool → Bool → Bool → ℕ → ℕ → ℕ → Aim → Descriptor
described kind brackets r e w gate page bound aim =
    record { kind = kind; brackets = brackets; r = r; e = e; w = w; gate = gate; page = page; bound = bound; aim = aim }

set_back : (number : ℕ) (kind : DescKind) (brackets : Bracketing) (r e w : Bool) (gate page bound : ℕ) (aim : Aim)
    → FitsWord (Set number (described kind brackets r e w gate page bound aim))
    → desc_view (desc_word (Set number (described kind brackets r e w gate page bound aim)))
    ≡ Set number (described kind brackets r e w gate page bound aim)
set_back number desc_kind.Segment brackets r e w gate page bound Equal fits = search rules
set_back number desc_kind.Segment brackets r e false gate page bound Dominates fits = search rules
set_back number desc_kind.Segment brackets r e true gate page bound Dominates fits =
    let closed : false ≡ true = fits.2.class in
    cc
set_back number desc_kind.Segment brackets false false false gate page bound Neither fits = search rules
set_back number desc_kind.Segment brackets r e w gate page bound Neither fits = search rules
set_back number desc_kind.Unknown brackets r e w gate page bound aim fits =
    let other : desc_kind.Unknown ≡ desc_kind.Segment = fits.1 in
    cc
set_back number desc_kind.Gone brackets r e w gate page bound aim fits =
    let other : desc_kind.Gone ≡ desc_kind.Segment = fits.1 in
    cc

pub view_back : (view : DescView) → FitsWord view → desc_view (desc_word view) ≡ view
view_back (Unknown number) fits = search rules
view_back (Fault number) fits = search rules
view_back (Gone number) fits = search rules
view_back (Set number d) fits = set_back number d.kind d.brackets d.r d.e d.w d.gate d.page d.bound d.aim fits

pub value_back : (value writer stamp : ℕ) → value < 2 ^ 36 → value_in (cell_word value writer stamp) ≡ value
value_back value writer stamp v = search rules

pub writer_back : (value writer stamp : ℕ) → value < 2 ^ 36 → writer ≤ 15 → stamp ≤ 262143 → writer_in (cell_word value writer stamp) ≡ writer
writer_back value writer stamp v w s = search rules

pub stamp_back : (value writer stamp : ℕ) → value < 2 ^ 36 → stamp ≤ 262143 → stamp_in (cell_word value writer stamp) ≡ stamp
stamp_back value writer stamp v s = search rules
