-- The loop that fills an output buffer, line after line.
-- Assumes nothing.
use mathlib.Core.Path.{◌≡◌, refl, sym, ap, ◌∙◌}
use mathlib.Core.List.{List, [], ◌++◌}
use Prim.Native.Nat.{ℕ, suc, ◌+◌, ◌-◌, ◌≤◌, ◌<◌}
use native.Mathlib.Nat.{zero-add}
use native.Mathlib.Omega.{arith}
use lib.ListN.{length, get_or, take, drop, length-append, length-drop, take-append-drop, drop_of_length-le}
use lib.Seq.{sets-eq, length-take-le, take_at, drop_at, drop-drop, drop-cons, take_all}
use Rattle.checks.specs.Buffers.{written}
use Rattle.script.specs.declared.writer.Writer.{Writer}
use Rattle.script.specs.Text.{put, past, Wrote}
use Rattle.script.proofs.Texts.{wrote-length}
use Rattle.interpreter.specs.declared.Reader.{Reader}
use Rattle.interpreter.specs.Session.{longest_answer, Filled, filled, output_size, filled_from, progress_of}
use Rattle.interpreter.specs.Promises.{Advancing}
use Rattle.interpreter.proofs.Filling.{filled-full}

-- a text that fits was written whole, and the buffer keeps what stands after it
record Whole (out : List ℕ) (at : ℕ) (text last : List ℕ) (next : ℕ) : Type 0 where
  place : next ≡ at + length text
  front : take next last ≡ take at out ++ text
  back : drop next last ≡ drop next out

wrote-whole : (out : List ℕ) (at : ℕ) (text last : List ℕ) (next : ℕ) → Wrote out at text last next → at + length text ≤ length out → Whole out at text last next
unfolding put past
wrote-whole out at text last next w h =
    let n : next ≡ at + length text = omega (arith, w.place) in
    let k : length (take at out ++ text) ≡ next = length-append (take at out) text ∙ omega (arith, length-take-le at out (omega arith)) in
    let e : last ≡ (take at out ++ text) ++ drop next out =
    w.bytes
    ∙ sets-eq text out at h
    ∙ ap (λ (k : ℕ). (take at out ++ text) ++ drop k out) (sym n) in
    record {
      place = n;
      front = rw e (take_at (take at out ++ text) (drop next out) next k);
      back = rw e (drop_at (take at out ++ text) (drop next out) next k);
    }

-- where the loop stands: so many bytes of the chunk were taken, and the writer is behind what they printed
pub record Filling (first : Reader) (chunk out : List ℕ) (r : Reader) (taken : ℕ) (w : Writer) : Type 0 where
  pub within : taken ≤ length chunk
  pub room : length w.out.now ≡ output_size
  pub used : w.at ≤ output_size
  pub kept : drop w.at w.out.now ≡ drop w.at out
  pub same : filled output_size r (take w.at w.out.now) (drop taken chunk) ≡ filled_from first chunk

pub filling_first : (r : Reader) (chunk out : List ℕ) (w : Writer) → w.out.now ≡ out → w.at ≡ 0 → length out ≡ output_size → Filling r chunk out r 0 w
unfolding filled_from
filling_first r chunk out w e z o =
    record {
      within = omega arith;
      room = ap length e ∙ o;
      used = omega arith;
      kept = ap (drop w.at) e;
      same = rw z refl;
    }

module _ (first : Reader) (chunk out : List ℕ) (r : Reader) (taken : ℕ) (w : Writer) (f : Filling first chunk out r taken w) where
  used-length : length (take w.at w.out.now) ≡ w.at
  used-length = length-take-le w.at w.out.now (omega (arith, f.room, f.used))

  pub filling_next : (n : ℕ) (r' : Reader) (w' : Writer) → w.at + longest_answer ≤ output_size → Advancing r (take (length chunk - taken) (drop taken chunk)) n r' w w'
      → Filling first chunk out r' (taken + n) w'
  filling_next n r' w' h b =
      let a = rw (take_all (length chunk - taken) (drop taken chunk) (omega (arith, length-drop taken chunk))) at b in
      let p = wrote-whole w.out.now w.at a.text w'.out.now w'.at a.wrote.wrote (omega (arith, a.short, f.room)) in
      let k : w'.at ≡ w.at + length a.text = p.place in
      record {
        within = omega (arith, a.within, length-drop taken chunk, f.within);
        room = wrote-length a.wrote.wrote ∙ f.room;
        used = omega (arith, a.short);
        kept =
            p.back ∙ rw (k, ← (drop-drop (length a.text) w.at w.out.now), ← (drop-drop (length a.text) w.at out), f.kept);
        same =
            ap (λ (t : List ℕ). filled output_size r' t (drop (taken + n) chunk)) p.front
            ∙ ap (filled output_size r' (take w.at w.out.now ++ a.text)) (sym (drop-drop n taken chunk))
            ∙ sym (a.taken output_size (take w.at w.out.now) (omega (arith, used-length)))
            ∙ f.same;
      }

  -- what the function promises
  abbrev pub Results : Type 0
  Results =
      (record { taken = taken; size = w.at } ≡ progress_of chunk (filled_from first chunk))
      × ((r ≡ (filled_from first chunk).reader) × (w.out.now ≡ written out 0 (filled_from first chunk).text))

  in_front_lem : w.out.now ≡ written out 0 (take w.at w.out.now)
  unfolding written
  in_front_lem =
      sym (take-append-drop w.at w.out.now)
      ∙ ap (λ (b : List ℕ). take w.at w.out.now ++ b) (f.kept ∙ ap (λ (k : ℕ). drop k out) (sym used-length ∙ sym (zero-add (length (take w.at w.out.now)))))

  results : (left : List ℕ) → record { reader = r; text = take w.at w.out.now; left = left } ≡ filled_from first chunk
      → taken ≡ length chunk - length left → Results
  results left e n =
      let now : Filled = record { reader = r; text = take w.at w.out.now; left = left } in
      let p : record { taken = taken; size = w.at } ≡ progress_of chunk now = rw (used-length, ← n) in
      (p ∙ ap (progress_of chunk) e, (ap (λ (x : Filled). x.reader) e, in_front_lem ∙ ap (λ (x : Filled). written out 0 x.text) e))

  -- the chunk is used up
  pub filling_done : length chunk ≤ taken → Results
  unfolding filled
  filling_done h =
      results [] (ap (filled output_size r (take w.at w.out.now)) (sym (drop_of_length-le chunk {i = taken} h)) ∙ f.same) (omega (arith, f.within))

  -- there is no room for another answer
  pub filling_full : taken < length chunk → output_size < w.at + longest_answer → Results
  filling_full h full =
      let cut = drop-cons chunk taken 0 h in
      let none = filled-full output_size r (take w.at w.out.now) (get_or chunk taken 0) (drop (suc taken) chunk) (omega (arith, used-length)) in
      results (drop taken chunk) (rw (cut) (sym none) ∙ f.same) (omega (arith, length-drop taken chunk))
