-- Small programs, each with its text.
use Rattle.std.specs.Prelude.{ℕ, List, [], ◌∷◌, Some, None, codes}
use Rattle.mc_base.specs.declared.text.place.Place.{Place}
use Rattle.mc_c_syntax.specs.declared.ast.trees.Name.{Name}
use Rattle.mc_c_syntax.specs.declared.ast.trees.Base.TheVariants as Base
use Rattle.mc_c_syntax.specs.declared.ast.trees.Comparison.TheVariants as Comparison
use Rattle.mc_c_syntax.specs.declared.ast.trees.Returned.TheVariants as Returned
use Rattle.mc_c_syntax.specs.declared.ast.trees.Size.TheVariants as Size
use Rattle.mc_c_syntax.specs.Ast.Trees.{number, null, value, plain, compare, negation, result_of, expression, allocation}
use Rattle.mc_c_syntax.specs.Ast.Trees.{assign, add, increment, declares, declaration, block, empty, simple, free, if_only}
use Rattle.mc_c_syntax.specs.Ast.Trees.{while_loop, for_loop, break_loop, returns, no_more, then, unnamed, void, listed}
use Rattle.mc_c_syntax.specs.Ast.Trees.{structure, function, UnitTree}
use Rattle.mc_c_types.specs.declared.faults.Fault.{Fault}
use Rattle.mc_c_types.specs.declared.faults.FaultName.{FaultName}

abbrev pub at : ℕ → ℕ → Place
at line column = record { line = line; column = column }

abbrev pub named : List ℕ → ℕ → ℕ → Name
named text line column = record { text = text; place = at line column }

abbrev pub fault : FaultName → ℕ → ℕ → Fault
fault name line column = record { name = name; place = at line column }

-- struct s { int a; struct s *n; };
-- struct s *cons(int a, struct s *n) {
--   struct s *p = malloc(sizeof(*p));
--   if (!p) return n;
--   p->a = a;
--   p->n = n;
--   return p;
-- }
-- int main(void) {
--   struct s *p = NULL;
--   for (int i = 0; i < 3; i++) p = cons(i, p);
--   while (p) { struct s *q = p->n; free(p); p = q; }
--   return 0;
-- }
abbrev pub builds_a_list : UnitTree
builds_a_list =
    (structure (record {
      place = at 1 1;
      name = named (codes "s") 1 8;
      fields = (record {
        base = Base.Int (at 1 12);
        declarators = (record { pointer = None; name = named (codes "a") 1 16 }) ∷ [];
      })
          ∷ (record {
            base = Base.Struct (at 1 19) (named (codes "s") 1 26);
            declarators = (record { pointer = Some (at 1 28); name = named (codes "n") 1 29 }) ∷ [];
          }) ∷ [];
    }))
    ∷ (function (record {
      static_place = None;
      returned = Returned.Value (Base.Struct (at 2 1) (named (codes "s") 2 8)) (Some (at 2 10));
      name = named (codes "cons") 2 11;
      parameters = listed ((record {
        base = Base.Int (at 2 16);
        declarator = (record { pointer = None; name = named (codes "a") 2 20 });
      })
          ∷ (record {
            base = Base.Struct (at 2 23) (named (codes "s") 2 30);
            declarator = (record { pointer = Some (at 2 32); name = named (codes "n") 2 33 });
          }) ∷ []);
      body = Some (record {
        place = at 2 36;
        statements = (declaration (record {
          base = Base.Struct (at 3 3) (named (codes "s") 3 10);
          items = (record {
            declarator = (record { pointer = Some (at 3 12); name = named (codes "p") 3 13 });
            value = Some (allocation (record {
              cast = None;
              place = at 3 17;
              size = Size.OfParens (at 3 24) (named (codes "p") 3 32);
            }));
          }) ∷ [];
        }))
            ∷ (if_only (at 4 3) (negation (at 4 7) (plain (value (record {
              name = named (codes "p") 4 8;
              fields = [];
            })))) (returns (at 4 11) (Some (expression (value (record {
              name = named (codes "n") 4 18;
              fields = [];
            })))))) ∷ (simple (assign (record {
              name = named (codes "p") 5 3;
              fields = (named (codes "a") 5 6)
                  ∷ [];
            }) (expression (value (record { name = named (codes "a") 5 10; fields = [] })))))
            ∷ (simple (assign (record {
              name = named (codes "p") 6 3;
              fields = (named (codes "n") 6 6)
                  ∷ [];
            }) (expression (value (record { name = named (codes "n") 6 10; fields = [] })))))
            ∷ (returns (at 7 3) (Some (expression (value (record { name = named (codes "p") 7 10; fields = [] })))))
            ∷ [];
      });
    })) ∷ (function (record {
      static_place = None;
      returned = Returned.Value (Base.Int (at 9 1)) None;
      name = named (codes "main") 9 5;
      parameters = void (at 9 10);
      body = Some (record {
        place = at 9 16;
        statements = (declaration (record {
          base = Base.Struct (at 10 3) (named (codes "s") 10 10);
          items = (record {
            declarator = (record { pointer = Some (at 10 12); name = named (codes "p") 10 13 });
            value = Some (expression (null (at 10 17)));
          }) ∷ [];
        }))
            ∷ (for_loop (record {
              place = at 11 3;
              start = declares (record {
                base = Base.Int (at 11 8);
                items = (record {
                  declarator = (record { pointer = None; name = named (codes "i") 11 12 });
                  value = Some (expression (number 0 (at 11 16)));
                }) ∷ [];
              });
              condition = Some (compare Comparison.Below (value (record {
                name = named (codes "i") 11 19;
                fields = [];
              })) (number 3 (at 11 23)));
              last = Some (increment (record {
                name = named (codes "i") 11 26;
                fields = [];
              }));
            }) (simple (assign (record {
              name = named (codes "p") 11 31;
              fields = [];
            }) (result_of (record {
              function = named (codes "cons") 11 35;
              arguments = (value (record { name = named (codes "i") 11 40; fields = [] }))
                  ∷ (value (record { name = named (codes "p") 11 43; fields = [] })) ∷ [];
            })))))
            ∷ (while_loop (at 12 3) (plain (value (record {
              name = named (codes "p") 12 10;
              fields = [];
            }))) (block (at 12 13) (then (declaration (record {
              base = Base.Struct (at 12 15)
                  (named (codes "s") 12 22);
              items = (record {
                declarator =
                    (record { pointer = Some (at 12 24); name = named (codes "q") 12 25 });
                value = Some
                    (expression (value (record {
                      name = named (codes "p") 12 29;
                      fields = (named (codes "n") 12 32)
                          ∷ [];
                    })));
              }) ∷ [];
            })) (then (free (at 12 35) (value (record {
              name = named (codes "p") 12 40;
              fields = [];
            }))) (then (simple (assign (record { name = named (codes "p") 12 44; fields = [] })
            (expression (value (record { name = named (codes "q") 12 48; fields = [] }))))) no_more))))) ∷
            (returns (at 13 3) (Some (expression (number 0 (at 13 10))))) ∷ [];
      });
    })) ∷ []

-- int main() { struct s *p = 0; if (p == NULL) return 0; return p->a; }
-- struct s { int a; };
abbrev pub later_struct : UnitTree
later_struct =
    (function (record {
      static_place = None;
      returned = Returned.Value (Base.Int (at 1 1)) None;
      name = named (codes "main") 1 5;
      parameters = unnamed;
      body = Some (record {
        place = at 1 12;
        statements = (declaration (record {
          base = Base.Struct (at 1 14) (named (codes "s") 1 21);
          items = (record {
            declarator = (record { pointer = Some (at 1 23); name = named (codes "p") 1 24 });
            value = Some (expression (number 0 (at 1 28)));
          }) ∷ [];
        }))
            ∷ (if_only (at 1 31) (compare Comparison.Equal (value (record {
              name = named (codes "p") 1 35;
              fields = [];
            })) (null (at 1 40))) (returns (at 1 46) (Some (expression (number 0 (at 1 53))))))
            ∷ (returns (at 1 56) (Some (expression (value (record {
              name = named (codes "p") 1 63;
              fields = (named (codes "a") 1 66) ∷ [];
            }))))) ∷ [];
      });
    }))
    ∷ (structure (record {
      place = at 2 1;
      name = named (codes "s") 2 8;
      fields = (record {
        base = Base.Int (at 2 12);
        declarators = (record { pointer = None; name = named (codes "a") 2 16 }) ∷ [];
      }) ∷ [];
    })) ∷ []

-- struct s { int a; };
-- int main() { struct s *x; { int x; x->a = 1; } }
abbrev pub hidden_variable : UnitTree
hidden_variable =
    (structure (record {
      place = at 1 1;
      name = named (codes "s") 1 8;
      fields = (record {
        base = Base.Int (at 1 12);
        declarators = (record { pointer = None; name = named (codes "a") 1 16 }) ∷ [];
      }) ∷ [];
    }))
    ∷ (function (record {
      static_place = None;
      returned = Returned.Value (Base.Int (at 2 1)) None;
      name = named (codes "main") 2 5;
      parameters = unnamed;
      body = Some (record {
        place = at 2 12;
        statements = (declaration (record {
          base = Base.Struct (at 2 14) (named (codes "s") 2 21);
          items = (record {
            declarator = (record { pointer = Some (at 2 23); name = named (codes "x") 2 24 });
            value = None;
          }) ∷ [];
        })) ∷ (block (at 2 27) (then (declaration (record {
          base = Base.Int (at 2 29);
          items = (record { declarator = (record { pointer = None; name = named (codes "x") 2 33 }); value = None })
              ∷ [];
        })) (then (simple (assign (record {
          name = named (codes "x") 2 36;
          fields = (named (codes "a") 2 39)
              ∷ [];
        }) (expression (number 1 (at 2 43))))) no_more))) ∷ [];
      });
    })) ∷ []

-- int main() { int x; { int x; } int x; }
abbrev pub twice_in_a_block : UnitTree
twice_in_a_block =
    (function (record {
      static_place = None;
      returned = Returned.Value (Base.Int (at 1 1)) None;
      name = named (codes "main") 1 5;
      parameters = unnamed;
      body = Some (record {
        place = at 1 12;
        statements = (declaration (record {
          base = Base.Int (at 1 14);
          items = (record { declarator = (record { pointer = None; name = named (codes "x") 1 18 }); value = None })
              ∷ [];
        })) ∷ (block (at 1 21) (then (declaration (record {
          base = Base.Int (at 1 23);
          items = (record { declarator = (record { pointer = None; name = named (codes "x") 1 27 }); value = None })
              ∷ [];
        })) no_more)) ∷ (declaration (record {
          base = Base.Int (at 1 32);
          items = (record { declarator = (record { pointer = None; name = named (codes "x") 1 36 }); value = None })
              ∷ [];
        })) ∷ [];
      });
    })) ∷ []

-- int main() { for (int i = 0; i < 3; i++) ; i = 1; }
abbrev pub loop_variable : UnitTree
loop_variable =
    (function (record {
      static_place = None;
      returned = Returned.Value (Base.Int (at 1 1)) None;
      name = named (codes "main") 1 5;
      parameters = unnamed;
      body = Some (record {
        place = at 1 12;
        statements = (for_loop (record {
          place = at 1 14;
          start = declares (record {
            base = Base.Int (at 1 19);
            items = (record {
              declarator = (record { pointer = None; name = named (codes "i") 1 23 });
              value = Some (expression (number 0 (at 1 27)));
            }) ∷ [];
          });
          condition = Some (compare Comparison.Below (value (record {
            name = named (codes "i") 1 30;
            fields = [];
          })) (number 3 (at 1 34)));
          last = Some (increment (record { name = named (codes "i") 1 37; fields = [] }));
        }) (empty (at 1 42)))
            ∷ (simple (assign (record {
              name = named (codes "i") 1 44;
              fields = [];
            }) (expression (number 1 (at 1 48))))) ∷ [];
      });
    })) ∷ []

-- struct s { int a; };
-- int main() { struct s *p = NULL; p += 1; }
abbrev pub pointer_added : UnitTree
pointer_added =
    (structure (record {
      place = at 1 1;
      name = named (codes "s") 1 8;
      fields = (record {
        base = Base.Int (at 1 12);
        declarators = (record { pointer = None; name = named (codes "a") 1 16 }) ∷ [];
      }) ∷ [];
    }))
    ∷ (function (record {
      static_place = None;
      returned = Returned.Value (Base.Int (at 2 1)) None;
      name = named (codes "main") 2 5;
      parameters = unnamed;
      body = Some (record {
        place = at 2 12;
        statements = (declaration (record {
          base = Base.Struct (at 2 14) (named (codes "s") 2 21);
          items = (record {
            declarator = (record { pointer = Some (at 2 23); name = named (codes "p") 2 24 });
            value = Some (expression (null (at 2 28)));
          }) ∷ [];
        }))
            ∷ (simple (add (record { name = named (codes "p") 2 34; fields = [] }) (number 1 (at 2 39)))) ∷ [];
      });
    }))
    ∷ []

-- struct s { int a; }; struct w { int b; };
-- int main() { struct s *p = (struct w *)malloc(sizeof(struct w)); }
abbrev pub wrong_cast : UnitTree
wrong_cast =
    (structure (record {
      place = at 1 1;
      name = named (codes "s") 1 8;
      fields = (record {
        base = Base.Int (at 1 12);
        declarators = (record { pointer = None; name = named (codes "a") 1 16 }) ∷ [];
      }) ∷ [];
    }))
    ∷ (structure (record {
      place = at 1 22;
      name = named (codes "w") 1 29;
      fields = (record {
        base = Base.Int (at 1 33);
        declarators = (record { pointer = None; name = named (codes "b") 1 37 }) ∷ [];
      }) ∷ [];
    }))
    ∷ (function (record {
      static_place = None;
      returned = Returned.Value (Base.Int (at 2 1)) None;
      name = named (codes "main") 2 5;
      parameters = unnamed;
      body = Some (record {
        place = at 2 12;
        statements = (declaration (record {
          base = Base.Struct (at 2 14) (named (codes "s") 2 21);
          items = (record {
            declarator = (record { pointer = Some (at 2 23); name = named (codes "p") 2 24 });
            value = Some (allocation (record {
              cast = Some (record {
                place = at 2 28;
                base = Base.Struct (at 2 29) (named (codes "w") 2 36);
                pointer = Some (at 2 38);
              });
              place = at 2 40;
              size = Size.OfType (at 2 47) (Base.Struct (at 2 54) (named (codes "w") 2 61));
            }));
          }) ∷ [];
        })) ∷ [];
      });
    }))
    ∷ []

-- struct s { int a; }; struct w { int b; };
-- int main() { struct s *p = malloc(sizeof(struct w)); }
abbrev pub wrong_size : UnitTree
wrong_size =
    (structure (record {
      place = at 1 1;
      name = named (codes "s") 1 8;
      fields = (record {
        base = Base.Int (at 1 12);
        declarators = (record { pointer = None; name = named (codes "a") 1 16 }) ∷ [];
      }) ∷ [];
    }))
    ∷ (structure (record {
      place = at 1 22;
      name = named (codes "w") 1 29;
      fields = (record {
        base = Base.Int (at 1 33);
        declarators = (record { pointer = None; name = named (codes "b") 1 37 }) ∷ [];
      }) ∷ [];
    }))
    ∷ (function (record {
      static_place = None;
      returned = Returned.Value (Base.Int (at 2 1)) None;
      name = named (codes "main") 2 5;
      parameters = unnamed;
      body = Some (record {
        place = at 2 12;
        statements = (declaration (record {
          base = Base.Struct (at 2 14) (named (codes "s") 2 21);
          items = (record {
            declarator = (record { pointer = Some (at 2 23); name = named (codes "p") 2 24 });
            value = Some (allocation (record {
              cast = None;
              place = at 2 28;
              size = Size.OfType (at 2 35) (Base.Struct (at 2 42) (named (codes "w") 2 49));
            }));
          }) ∷ [];
        })) ∷ [];
      });
    }))
    ∷ []

-- int f(int a) { return a; }
-- int main() { return f(); }
abbrev pub too_few_arguments : UnitTree
too_few_arguments =
    (function (record {
      static_place = None;
      returned = Returned.Value (Base.Int (at 1 1)) None;
      name = named (codes "f") 1 5;
      parameters = listed ((record {
        base = Base.Int (at 1 7);
        declarator = (record { pointer = None; name = named (codes "a") 1 11 });
      }) ∷ []);
      body = Some (record {
        place = at 1 14;
        statements = (returns (at 1 16) (Some (expression (value (record {
          name = named (codes "a") 1 23;
          fields = [];
        }))))) ∷ [];
      });
    }))
    ∷ (function (record {
      static_place = None;
      returned = Returned.Value (Base.Int (at 2 1)) None;
      name = named (codes "main") 2 5;
      parameters = unnamed;
      body = Some (record {
        place = at 2 12;
        statements = (returns (at 2 14) (Some (result_of (record {
          function = named (codes "f") 2 21;
          arguments = [];
        })))) ∷ [];
      });
    })) ∷ []

-- void f(int a) { }
-- int main() { return f(); }
abbrev pub no_result : UnitTree
no_result =
    (function (record {
      static_place = None;
      returned = Returned.Void (at 1 1);
      name = named (codes "f") 1 6;
      parameters = listed ((record {
        base = Base.Int (at 1 8);
        declarator = (record { pointer = None; name = named (codes "a") 1 12 });
      }) ∷ []);
      body = Some (record { place = at 1 15; statements = [] });
    }))
    ∷ (function (record {
      static_place = None;
      returned = Returned.Value (Base.Int (at 2 1)) None;
      name = named (codes "main") 2 5;
      parameters = unnamed;
      body = Some (record {
        place = at 2 12;
        statements = (returns (at 2 14) (Some (result_of (record {
          function = named (codes "f") 2 21;
          arguments = [];
        })))) ∷ [];
      });
    })) ∷ []

-- int main() { while (1) break; break; }
abbrev pub break_outside : UnitTree
break_outside =
    (function (record {
      static_place = None;
      returned = Returned.Value (Base.Int (at 1 1)) None;
      name = named (codes "main") 1 5;
      parameters = unnamed;
      body = Some (record {
        place = at 1 12;
        statements = (while_loop (at 1 14) (plain (number 1 (at 1 21))) (break_loop (at 1 24)))
            ∷ (break_loop (at 1 31)) ∷ [];
      });
    })) ∷ []

-- the empty text
abbrev pub no_function : UnitTree
no_function =
    []

-- int main(int a) { return a; }
abbrev pub entry_with_parameter : UnitTree
entry_with_parameter =
    (function (record {
      static_place = None;
      returned = Returned.Value (Base.Int (at 1 1)) None;
      name = named (codes "main") 1 5;
      parameters = listed ((record {
        base = Base.Int (at 1 10);
        declarator = (record { pointer = None; name = named (codes "a") 1 14 });
      }) ∷ []);
      body = Some (record {
        place = at 1 17;
        statements = (returns (at 1 19) (Some (expression (value (record {
          name = named (codes "a") 1 26;
          fields = [];
        }))))) ∷ [];
      });
    })) ∷ []

-- int f() { return x; }
abbrev pub entry_after_others : UnitTree
entry_after_others =
    (function (record {
      static_place = None;
      returned = Returned.Value (Base.Int (at 1 1)) None;
      name = named (codes "f") 1 5;
      parameters = unnamed;
      body = Some (record {
        place = at 1 9;
        statements = (returns (at 1 11) (Some (expression (value (record {
          name = named (codes "x") 1 18;
          fields = [];
        }))))) ∷ [];
      });
    })) ∷ []

-- int f() { return f(); }
-- int main() { return f(); }
abbrev pub calls_itself : UnitTree
calls_itself =
    (function (record {
      static_place = None;
      returned = Returned.Value (Base.Int (at 1 1)) None;
      name = named (codes "f") 1 5;
      parameters = unnamed;
      body = Some (record {
        place = at 1 9;
        statements = (returns (at 1 11) (Some (result_of (record {
          function = named (codes "f") 1 18;
          arguments = [];
        })))) ∷ [];
      });
    }))
    ∷ (function (record {
      static_place = None;
      returned = Returned.Value (Base.Int (at 2 1)) None;
      name = named (codes "main") 2 5;
      parameters = unnamed;
      body = Some (record {
        place = at 2 12;
        statements = (returns (at 2 14) (Some (result_of (record {
          function = named (codes "f") 2 21;
          arguments = [];
        })))) ∷ [];
      });
    })) ∷ []

-- int f(); int g() { return f(); }
-- int f() { return g(); }
-- int main() { return 0; }
abbrev pub calls_in_a_ring : UnitTree
calls_in_a_ring =
    (function (record {
      static_place = None;
      returned = Returned.Value (Base.Int (at 1 1)) None;
      name = named (codes "f") 1 5;
      parameters = unnamed;
      body = None;
    }))
    ∷ (function (record {
      static_place = None;
      returned = Returned.Value (Base.Int (at 1 10)) None;
      name = named (codes "g") 1 14;
      parameters = unnamed;
      body = Some (record {
        place = at 1 18;
        statements = (returns (at 1 20) (Some (result_of (record {
          function = named (codes "f") 1 27;
          arguments = [];
        })))) ∷ [];
      });
    }))
    ∷ (function (record {
      static_place = None;
      returned = Returned.Value (Base.Int (at 2 1)) None;
      name = named (codes "f") 2 5;
      parameters = unnamed;
      body = Some (record {
        place = at 2 9;
        statements = (returns (at 2 11) (Some (result_of (record {
          function = named (codes "g") 2 18;
          arguments = [];
        })))) ∷ [];
      });
    }))
    ∷ (function (record {
      static_place = None;
      returned = Returned.Value (Base.Int (at 3 1)) None;
      name = named (codes "main") 3 5;
      parameters = unnamed;
      body = Some (record {
        place = at 3 12;
        statements = (returns (at 3 14) (Some (expression (number 0 (at 3 21))))) ∷ [];
      });
    })) ∷ []
