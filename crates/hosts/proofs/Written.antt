-- A write in mid-transfer: the sectors before the one at hand are stored, and no byte of it.
use Prim.Native.Nat.{ℕ, suc, ◌+◌, ◌-◌, ◌*◌}
use mathlib.Core.Path.{◌≡◌, ap, subst, ◌∙◌}
use mathlib.Core.List.{List, [], ◌∷◌, ◌++◌, append_assoc}
use native.Mathlib.Omega.{arith}
use lib.ListN.{length, take, drop, set, length-append}
use lib.Seq.{take_all, take-append_seam, drop-append_seam}
use Rattle.registers.specs.declared.Load.{Load}
use Rattle.registers.specs.declared.Load.TheVariants.{Sectors, Buffer}
use Rattle.registers.specs.declared.Phase.{Phase}
use Rattle.registers.specs.declared.Phase.TheVariants.{Idle, DataIn, DataOut}
use Rattle.registers.specs.Machine.{Machine}
use Rattle.sectors.specs.Sectors.{StoreMarks, store_marks}
use Rattle.kept.specs.Lent.{store_marks_in}
use Rattle.account.specs.Plain.{Plain}
use Rattle.account.specs.WholeSectors.{put_sector, replaced, cleared, bad_at, bad_from, bad_left}
use Rattle.account.proofs.Stored.{bad_on}
use Rattle.account.proofs.Rest.{here}

-- of a write from index i of p: k sectors are stored, the next one is h, and 2 * w bytes of it stand in the buffer. Whatever comes, j more sectors of it are
-- to be put from h on
pub record Written (i : ℕ) (p : Plain) (h w : ℕ) (b : List ℕ) (x : StoreMarks) (l : List ℕ) : Type 0 where
  pub k : ℕ
  pub size : length l ≡ 512 * k + 2 * w
  pub stored : (j : ℕ) (d : List ℕ) → replaced i (k + j) (l ++ d) p.store ≡ replaced h j (take (2 * w) b ++ d) x.store
  pub marked : (j : ℕ) → cleared i (k + j) p.marks ≡ cleared h j x.marks
  pub counted : (j : ℕ) → bad_left i (k + j) p ≡ x.bad - bad_from h j x.marks

-- the first sector of a write, if there is one
pub data Target : Type 0 where
  Nowhere : Target
  From : ℕ → Target

abbrev pub LoadLies : Target → Load → Plain → ℕ → ℕ → List ℕ → StoreMarks → List ℕ → Type 0
LoadLies Nowhere Buffer p h w b x l = Unit {0}
LoadLies Nowhere (Sectors n pace) p h w b x l = ⊥
LoadLies (From i) Buffer p h w b x l = ⊥
LoadLies (From i) (Sectors n pace) p h w b x l = Written i p h w b x l

abbrev pub LiesAt : Target → Phase → Plain → ℕ → List ℕ → StoreMarks → List ℕ → Type 0
LiesAt g Idle p h b x l = Unit {0}
LiesAt g (DataIn t) p h b x l = Unit {0}
LiesAt g (DataOut t) p h b x l = LoadLies g t.load p h t.words b x l

abbrev pub Lies : Target → Plain → Machine → List ℕ → Type 0
Lies g p m l = LiesAt g m.phase p (here m.state) m.buffer (store_marks_in m) l

module _ (i : ℕ) (p : Plain) where
  -- a word more of the sector at hand
  pub word_more : (h w : ℕ) (b o : List ℕ) (z : StoreMarks) (l : List ℕ) (x y : ℕ) → take (2 * (w + 1)) b ≡ take (2 * w) o ++ (x ∷ y ∷ []) → Written i p h w o z l →
      Written i p h (w + 1) b z (l ++ (x ∷ y ∷ []))
  word_more h w b o z l x y e u = record {
    k = u.k;
    size = let s = u.size in length-append l (x ∷ y ∷ []) ∙ (omega arith);
    stored = λ j d. rw (e, append_assoc l (x ∷ y ∷ []) d, append_assoc (take (2 * w) o) (x ∷ y ∷ []) d) (u.stored j (x ∷ y ∷ d));
    marked = u.marked;
    counted = u.counted;
  }

  -- and a sector more
  pub sector_more : (h : ℕ) (b : List ℕ) (x : StoreMarks) (l : List ℕ) → length b ≡ 512 → Written i p h 256 b x l →
      Written i p (h + 1) 0 b (store_marks (put_sector h b x.store) (set x.marks h 0) (x.bad - bad_at h x.marks)) l
  unfolding replaced cleared
  sector_more h b q l f z = record {
    k = z.k + 1;
    size = let s = z.size in omega arith;
    stored = λ j d.
        let n : z.k + 1 + j ≡ z.k + suc j = omega arith in
        let e : take (2 * 256) b ≡ b = take_all 512 b (omega arith) in
        let x : take 512 (b ++ d) ≡ b = subst (λ (a : ℕ). take a (b ++ d) ≡ b) f (take-append_seam b d) in
        let y : drop 512 (b ++ d) ≡ d = subst (λ (a : ℕ). drop a (b ++ d) ≡ d) f (drop-append_seam b d) in
        ap (λ (a : ℕ). replaced i a (l ++ d) p.store) n
        ∙ z.stored (suc j) d
        ∙ ap (λ (a : List ℕ). replaced h (suc j) (a ++ d) q.store) e
        ∙ ap (λ (a : List ℕ). replaced (h + 1) j a (put_sector h (take 512 (b ++ d)) q.store)) y
        ∙ ap (λ (a : List ℕ). replaced (h + 1) j d (put_sector h a q.store)) x;
    marked = λ j. let n : z.k + 1 + j ≡ z.k + suc j = omega arith in ap (λ (a : ℕ). cleared i a p.marks) n ∙ z.marked (suc j);
    counted = λ j.
        let n : z.k + 1 + j ≡ z.k + suc j = omega arith in
        ap (λ (a : ℕ). bad_left i a p) n ∙ z.counted (suc j) ∙ bad_on q.bad h j q.marks;
  }
