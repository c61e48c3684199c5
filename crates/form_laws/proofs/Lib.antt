pub mod OneFault
