use Rattle.std.proofs.Common.{◌≡◌, inl, inr, refl, ⊎_elim, arith, rules}
use Rattle.store_reader.proofs.HeaderBytes.{header_opens}
use Rattle.store_reader.proofs.header.spelled_header.Goals as goal

pub returns-then-version-eq2-clause-opens : goal.returns-then-version-eq2-clause-opens
returns-then-version-eq2-clause-opens c =
    header_opens c.args.bytes.now c.args.version c.read_u32.result c.read_u32-2.result _ (λ i. (c.type_inv.bytes i).fits) c.requires.whole c.requires.begins (search rules) (search rules) (c.type_inv.bytes 13).fits c.read_u32.ensures c.read_u32-2.ensures
    (inr (c.if-version-eq2.true, refl))

pub returns-else-version-eq2-clause-opens : goal.returns-else-version-eq2-clause-opens
returns-else-version-eq2-clause-opens c =
    header_opens c.args.bytes.now c.args.version c.read_u32.result c.read_u32-2.result 1 (λ i. (c.type_inv.bytes i).fits) c.requires.whole c.requires.begins (search rules) (search rules) (omega arith) c.read_u32.ensures c.read_u32-2.ensures
    (⊎_elim (λ (one : c.args.version ≡ 1). inl (one, refl)) (λ (two : c.args.version ≡ 2). absurd (c.if-version-eq2.false two)) c.requires.known)
