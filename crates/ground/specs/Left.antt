-- What a call leaves: its outcome, and what was lent to it, as it is next.
pub record Left (R L : Type 0) : Type 0 where
  pub outcome : R
  pub next : L

abbrev pub leaving : {R L : Type 0} → R → L → Left R L
leaving r l = record { outcome = r; next = l }
