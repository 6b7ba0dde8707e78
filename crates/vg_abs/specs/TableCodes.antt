-- How tables are told apart as values of models. Nothing that a clause says rests on this.
use Rattle.std.specs.Prelude.{ℕ, List, refl}
use Rattle.std.specs.FinMap.{code}
use Rattle.std.specs.Coded.{Coded, code_by, coded×, coded_list, coded_option, coded_ℕ}
use Rattle.vg_stree.specs.declared.config.Route.{Route}
use Rattle.vg_abs.specs.Tables.{KeyTable, TimeTable, CellTable, BoundTable, AddressTable, Link, Vector, Routing}

-- a link, a vector and a prefix table are stored as the tuples of their fields
abbrev pub link_code : Coded Link
link_code = code_by
    (ℕ × (ℕ × (KeyTable × (TimeTable × (CellTable × (ℕ × (ℕ × (ℕ × BoundTable))))))))
    (coded× coded_ℕ (coded× coded_ℕ (coded× (code (coded_list coded_ℕ) (coded_option coded_ℕ))
    (coded× (code coded_ℕ (coded_option coded_ℕ)) (coded× (code coded_ℕ (coded_list coded_ℕ))
    (coded× coded_ℕ (coded× coded_ℕ (coded× coded_ℕ (code coded_ℕ coded_ℕ)))))))))
    (λ l. (l.capacity, (l.key_length, (l.keys, (l.times, (l.cells, (l.size, (l.count, (l.highest, l.bounds)))))))))
    (λ p. record {
      capacity = p.0;
      key_length = p.1.0;
      keys = p.1.1.0;
      times = p.1.1.1.0;
      cells = p.1.1.1.1.0;
      size = p.1.1.1.1.1.0;
      count =
          p.1.1.1.1.1.1.0;
      highest = p.1.1.1.1.1.1.1.0;
      bounds = p.1.1.1.1.1.1.1.1;
    })
    (λ _. refl)

abbrev pub vector_code : Coded Vector
vector_code = code_by (ℕ × CellTable) (coded× coded_ℕ (code coded_ℕ (coded_list coded_ℕ))) (λ v. (v.cell_count, v.cells))
    (λ p. record { cell_count = p.0; cells = p.1 }) (λ _. refl)

abbrev pub route_code : Coded Route
route_code = code_by (ℕ × (ℕ × (ℕ × ℕ))) (coded× coded_ℕ (coded× coded_ℕ (coded× coded_ℕ coded_ℕ))) (λ r. (r.table, (r.address, (r.len, r.value))))
    (λ p. record { table = p.0; address = p.1.0; len = p.1.1.0; value = p.1.1.1 }) (λ _. refl)

abbrev pub routing_code : Coded Routing
routing_code = code_by (List Route × AddressTable) (coded× (coded_list route_code) (code coded_ℕ (coded_option coded_ℕ)))
    (λ p. (p.routes, p.addresses)) (λ p. record { routes = p.0; addresses = p.1 }) (λ _. refl)
