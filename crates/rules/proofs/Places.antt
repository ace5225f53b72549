-- A place of a proof, found by its type: `the tie.After-CALL (search)`.

abbrev pub the : (A : Type 0) → A → A
the A a = a
