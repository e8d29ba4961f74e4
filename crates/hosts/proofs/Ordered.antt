-- A host that sends its own data sends it in order, whatever its rounds are made of.
use Prim.Native.Nat.{ℕ, zero, suc, ◌+◌, ◌*◌, ◌/◌, ◌%◌, ◌<◌}
use mathlib.Core.Bool.{Bool, true, false, false≢true}
use mathlib.Core.Path.{◌≡◌, refl, sym, ap, ◌∙◌, subst}
use mathlib.Core.List.{List, [], ◌∷◌, ◌++◌}
use native.Mathlib.Omega.{arith}
use lib.ListN.{length, length-append}
use Rattle.ground.specs.Choice.{pick}
use Rattle.ground.specs.Lists.{listed}
use Rattle.maps.specs.declared.Port.{Port}
use Rattle.registers.specs.Machine.{Machine}
use Rattle.transfers.specs.declared.Way.{Way}
use Rattle.transfers.specs.declared.Way.TheVariants.{In, Out}
use Rattle.card.specs.declared.Meaning.{Meaning}
use Rattle.account.specs.Plain.{Plain}
use Rattle.account.specs.CommandRows.{CommandRow}
use Rattle.account.specs.Table.{account}
use Rattle.account.specs.Host.{asks, Hosted, hosted_by}
use Rattle.account.specs.Notes.{Waiting, None, LowByte, HighByte, Notes, note_data}
use Rattle.hosts.specs.Live.{fits, moved}
use Rattle.hosts.specs.Choices.{writes}
use Rattle.hosts.specs.Hosts.{Round, onward, Going, round, rounds, Willing, Chosen}
use Rattle.hosts.specs.Sends.{next, next_of}
use Rattle.account.proofs.Rest.{Rel, notes}
use Rattle.hosts.proofs.Reached.{onward-append, going-append}
use Rattle.hosts.proofs.Rounds.{chosen-taken}

module _ (b : ℕ → ℕ) where
  abbrev Held : ℕ → Waiting → Type 0
  Held n None = Unit {0}
  Held n (LowByte x) = x ≡ b n
  Held n (HighByte x) = x ≡ b (n + 1)

  abbrev pub InOrder : Notes → Type 0
  InOrder q = (q.done ≡ listed b 0 (length q.done)) × Held (length q.done) q.waiting

  listed_two : (n i : ℕ) → listed b i (suc (suc n)) ≡ listed b i n ++ (b (i + n) ∷ b (i + n + 1) ∷ [])
  unfolding listed
  listed_two zero i = let e : i ≡ i + 0 = omega arith in ap (λ (k : ℕ). b k ∷ b (k + 1) ∷ []) e
  listed_two (suc n) i =
      let e : i + 1 + n ≡ i + suc n = omega arith in
      ap (λ (l : List ℕ). b i ∷ l) (listed_two n (i + 1) ∙ ap (λ (k : ℕ). listed b (i + 1) n ++ (b k ∷ b (k + 1) ∷ [])) e)

  two : (l : List ℕ) (x y : ℕ) → l ≡ listed b 0 (length l) → x ≡ b (length l) → y ≡ b (length l + 1) → l ++ (x ∷ y ∷ []) ≡ listed b 0 (length (l ++ (x ∷ y ∷ [])))
  two l x y p u v =
      let e : 0 + length l ≡ length l = omega arith in
      let k = length-append l (x ∷ y ∷ []) in
      let n : suc (suc (length l)) ≡ length (l ++ (x ∷ y ∷ [])) = omega arith in
      ap (λ (t : List ℕ). t ++ (x ∷ y ∷ [])) p
      ∙ ap (λ (t : ℕ). listed b 0 (length l) ++ (t ∷ y ∷ [])) u
      ∙ ap (λ (t : ℕ). listed b 0 (length l) ++ (b (length l) ∷ t ∷ [])) v
      ∙ ap (λ (t : ℕ). listed b 0 (length l) ++ (b t ∷ b (t + 1) ∷ [])) (sym e)
      ∙ sym (listed_two (length l) 0)
      ∙ ap (listed b 0) n

  part_ordered : ((i : ℕ) → b i < 256) → (port : Port) (w : Waiting) (l : List ℕ) → fits w port ≡ true → InOrder (notes l w) → InOrder (note_data port w (next b (length l) w port) (notes l w))
  part_ordered h Port.Even None l e f = (f.0, refl)
  part_ordered h Port.Even (LowByte x) l e f = (two l x (b (length l + 1)) f.0 f.1 refl, tt)
  part_ordered h Port.Even (HighByte x) l e f = (two l (b (length l)) x f.0 refl f.1, tt)
  part_ordered h Port.Odd None l e f = (f.0, refl)
  part_ordered h Port.Odd (LowByte x) l e f = (two l x (b (length l + 1)) f.0 f.1 refl, tt)
  part_ordered h Port.Odd (HighByte x) l e f = absurd (false≢true e)
  part_ordered h Port.Word None l e f =
      let x = h (length l) in
      (two l ((b (length l) + 256 * b (length l + 1)) % 256) ((b (length l) + 256 * b (length l + 1)) / 256) f.0 (omega arith) (omega arith), tt)
  part_ordered h Port.Word (LowByte x) l e f = absurd (false≢true e)
  part_ordered h Port.Word (HighByte x) l e f = absurd (false≢true e)

moved_out : (way : Way) (answer v : ℕ) → way ≡ Out → moved way answer v ≡ v
moved_out In answer v e = absurd (false≢true (ap writes e))
moved_out Out answer v e = refl

module _ {A : Type 0} (means : Machine → A → Meaning) (way : Way) (out : way ≡ Out) (row : CommandRow) (p : Plain) (Stands : Hosted → Type 0)
    (rel : (h : Hosted) → Stands h → Rel way (account row p) h.machine h.notes)
    (stays : (h : Hosted) (l : List A) → Stands h → Going means way h l → Stands (onward means way h l)) (b : ℕ → ℕ) (small : (i : ℕ) → b i < 256)
    (sends : Hosted → Round A → Type 0)
    (by : (h : Hosted) (t : Round A) → Stands h → sends h t → let k = onward means way h t.aside in
    Going means way h t.aside × (k.notes ≡ h.notes) × (asks k.machine ≡ true → (x : Chosen way k (means k.machine t.choice)) × (x.value ≡ next_of b k.notes x.port))) where
  abbrev Ordered : Hosted → List A → Type 0
  Ordered h l = Going means way h l × InOrder b (onward means way h l).notes

  round_ordered : (h : Hosted) (t : Round A) (c : Bool) → asks (onward means way h t.aside).machine ≡ c → Stands h → sends h t → InOrder b h.notes →
      Ordered h (t.aside ++ pick c (t.choice ∷ []) [])
  unfolding hosted_by
  round_ordered h t true e s r f =
      let u = by h t s r in
      let k = onward means way h t.aside in
      let q = k.notes in
      let l = t.choice ∷ [] in
      let g = u.2 e in
      let x = chosen-taken row p way k (means k.machine t.choice) (rel k (stays h t.aside s u.0)) e g.0 in
      let y : (onward means way k l).notes ≡ note_data g.0.port q.waiting (next_of b q g.0.port) q =
      x.part ∙ ap (λ (n : ℕ). note_data g.0.port q.waiting n q) (moved_out way x.answer g.0.value out ∙ g.1) in (
        going-append means way h t.aside l u.0 (e, x.quiet, tt),
        subst (λ (j : Hosted). InOrder b j.notes) (sym (onward-append means way h t.aside l))
            (subst (InOrder b) (sym y) (part_ordered b small g.0.port q.waiting q.done g.0.half (subst (InOrder b) (sym u.1) f))),
      )
  round_ordered h t false e s r f =
      let u = by h t s r in (
        going-append means way h t.aside [] u.0 tt,
        subst (λ (j : Hosted). InOrder b j.notes) (sym (onward-append means way h t.aside [])) (subst (InOrder b) (sym u.1) f),
      )

  abbrev Orders : List (Round A) → Type 0
  Orders l = (h : Hosted) → Stands h → Willing means way sends h l → InOrder b h.notes → InOrder b (onward means way h (rounds means way h l)).notes

  rounds_ordered : (t : Round A) (l : List (Round A)) → Orders l → (h : Hosted) (c : Bool) → asks h.machine ≡ c → Stands h → Willing means way sends h (t ∷ l) → InOrder b h.notes →
      InOrder b (onward means way h (pick c (round means way h t ++ rounds means way (onward means way h (round means way h t)) l) [])).notes
  rounds_ordered t l on h false e s w f = unfold hosted_by in f
  rounds_ordered t l on h true e s w f =
      let r = w e in
      let u = round_ordered h t _ refl s r.0 f in
      let a = round means way h t in
      let k = onward means way h a in
      subst (λ (j : Hosted). InOrder b j.notes) (sym (onward-append means way h a (rounds means way k l))) (on k (stays h a s u.0) r.1 u.1)

  pub all_ordered : (l : List (Round A)) → Orders l
  unfolding rounds hosted_by
  all_ordered [] h s w f = f
  all_ordered (t ∷ l) h s w f = rounds_ordered t l (all_ordered l) h (asks h.machine) refl s w f
