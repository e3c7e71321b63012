-- Demand 3: alike byte sequences hold alike sheets, and those are decoded alike.
use Prim.Native.Nat.{ℕ}
use mathlib.Core.Path.{◌≡◌, sym, ap, ◌∙◌, subst}
use mathlib.Core.Bool.{true, not}
use mathlib.Core.List.{List}
use lib.Dec.{T}
use lib.Ieee.{eq}
use Rattle.model.specs.declared.Settings.{Settings}
use Rattle.model.specs.declared.Road.{Road}
use Rattle.model.specs.Judge.{Fine}
use Rattle.model.specs.Numbers.{f0}
use Rattle.model.specs.Lists.{In}
use Rattle.model.specs.Judge.{judged}
use Rattle.model.specs.Sheet.{Sheet, parsed}
use Rattle.model.specs.Call.{Lent, Decoded, decode_sheet, after_judging, decode}
use Rattle.model.proofs.Members.{all_at}
use Rattle.model.proofs.Judging.{well_formed}
use Rattle.bounds.proofs.FormedProof.{formed}
use Rattle.bounds.proofs.Still.{finalize_plain}
use Rattle.closed.specs.Closed.{shared_answer, no_zero_length, Demand3}
use Rattle.closed.proofs.AlikeSheets.{same_shared, same_whole}
use Rattle.closed.proofs.AlikeBytes.{alike_sheets}

-- a well-formed sheet is decoded
decode_fine : (s : List ℕ) (lent : Lent) → judged s ≡ Fine → decode s lent ≡ decode_sheet (parsed s) lent
unfolding decode after_judging
decode_fine s lent e = rw (e, after_judging)

-- no road of it has length 0
road_not_zero : (t : Sheet) → no_zero_length t ≡ true → (r : Road) → In r t.roads → T (not (eq r.length_m f0))
unfolding no_zero_length
road_not_zero t e r m = all_at (λ r. not (eq r.length_m f0)) (subst T (sym e) tt) m

-- the demand
pub demand3 : Demand3
demand3 x y fx fy h lent =
    let alike = alike_sheets x y (well_formed x fx) (well_formed y fy) h in
    record {
      same_core = ap (λ (d : Decoded). shared_answer d.answer) (decode_fine x lent fx) ∙ same_shared (parsed x) (parsed y) (formed x fx) alike lent ∙ sym (ap (λ (d : Decoded). shared_answer d.answer) (decode_fine y lent fy));
      same_whole = λ off zx zy.
          decode_fine x lent fx
          ∙ same_whole (parsed x) (parsed y) (formed x fx) alike
          (finalize_plain (parsed x) (formed x fx) (road_not_zero (parsed x) zx) off)
          (finalize_plain (parsed y) (formed y fy) (road_not_zero (parsed y) zy) (ap (λ (c : Settings). c.snap_to_valid_nodes) (sym alike.settings) ∙ off))
          lent
          ∙ sym (decode_fine y lent fy);
    }
